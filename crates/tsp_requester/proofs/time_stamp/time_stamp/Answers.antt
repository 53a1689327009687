use Rattle.std.proofs.Common.{sym, ◌∙◌, rules}
use Rattle.der_core.proofs.Encoded.{same}
use Rattle.der_core.proofs.OnlyMember.{only_is}
use Rattle.tsp_types.specs.TstValue.{id_tst_info}
use Rattle.tsp_requester.proofs.time_stamp.time_stamp.Goals as goal

pub returns-clause-found : goal.returns-clause-found
returns-clause-found c = record {
  encodes = c.in-Ok.ensures.found;
  econtent_type = sym (c.bytes.ensures.octets ∙ c.content_type.ensures)
      ∙ same c.bytes.result.now id_tst_info (sym c.is_same.ensures ∙ c.if-not-is_same.false);
  content = c.in_ok-content.field-0.now;
  present = search rules;
  encodes_stamp = c.in-Ok-read.ensures.found;
  one_signer = sym c.signers.ensures ∙ only_is _ _ (sym c.in_ok-signer.ensures);
}
