use Rattle.std.proofs.Common.{inl, inr, refl, ◌∙◌}
use Rattle.library_calls.proofs.Told.{line_as}
use Rattle.library_calls.proofs.matching.tell_match.Goals as goal

pub returns-in-Ok : goal.returns-in-Ok
returns-in-Ok c = inl (
  (c.in-Ok.field-0.now, c.in-Ok.ensures.answers),
  c.tell_line.ensures.said ∙ c.ruled-said.ensures,
  line_as _ _ _ _ _ _ _ _ c.as_bytes.ensures.value refl c.tell_line.ensures.line,
)

pub returns-in-Err : goal.returns-in-Err
returns-in-Err c =
    inr (c.in-Err.why, c.in-Err.ensures.refused, c.tell_failure.ensures.said, c.tell_failure.ensures.line)
