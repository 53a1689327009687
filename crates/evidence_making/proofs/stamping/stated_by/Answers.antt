use Rattle.std.proofs.Common.{sym, ◌∙◌, rules}
use Rattle.der_core.proofs.Encoded.{same}
use Rattle.tsp_types.specs.TstValue.{id_tst_info}
use Rattle.evidence_making.proofs.stamping.stated_by.Goals as goal

pub returns : goal.returns
returns c = record {
  signed = c.in-Ok.signed;
  encodes = c.in-Ok.ensures.found;
  econtent_type = sym (c.bytes.ensures.octets ∙ c.content_type.ensures)
      ∙ same c.bytes.result.now id_tst_info (sym c.is_same.ensures ∙ c.if-not-is_same.false);
  content = c.in-Some.content.now;
  present = search rules;
  encodes_stamp = c.in-Ok-read.ensures.found;
}
