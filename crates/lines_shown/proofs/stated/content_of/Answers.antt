use Rattle.std.proofs.Common.{sym, ◌∙◌}
use Rattle.der_core.proofs.Encoded.{same}
use Rattle.lines_shown.proofs.ContentFound.{content_found}
use Rattle.lines_shown.proofs.stated.content_of.Goals as goal

pub returns-then-is_same-clause-found : goal.returns-then-is_same-clause-found
returns-then-is_same-clause-found c = content_found c.content.result _ _
    (sym (c.bytes.ensures.octets ∙ c.content_type.ensures) ∙ same _ _ (sym c.if-is_same.ensures)) c.content.ensures
