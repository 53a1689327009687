use Rattle.std.proofs.Common.{◌≡◌, ◌∙◌, Some, sym, rules}
use Rattle.der_core.proofs.Encoded.{same}
use Rattle.tsp_types.specs.TstValue.{id_tst_info}
use Rattle.evidence_stamps.proofs.Stated.{state_of}
use Rattle.evidence_stamps.proofs.token_state.TokenState.read.Goals as goal

pub returns : goal.returns
returns c =
    let is_type : c.in-Ok.signed.encapsulated.content_type ≡ id_tst_info =
    sym (c.bytes.ensures.octets ∙ c.content_type.ensures)
    ∙ same c.bytes.result.now id_tst_info (sym c.is_same.ensures ∙ c.if-not-is_same.false) in
    let present : c.in-Ok.signed.encapsulated.content ≡ Some c.in-Some.content.now = search rules in
    state_of c.args.token.now c.in-Ok.signed c.in-Ok.ensures.found is_type c.in-Some.content.now present
    c.in-Ok-read.stated c.in-Ok-read.ensures.found
