use Rattle.std.proofs.Common.{inl, inr, ◌∙◌}
use Rattle.library_calls.proofs.Told.{line_as}
use Rattle.library_calls.proofs.compare.tell_comparison.Goals as goal

pub returns-in-Ok : goal.returns-in-Ok
returns-in-Ok c = inl (
  c.in-Ok.compared,
  (c.compare.ensures.compared c.in-Ok.compared).0 c.in-Ok.is,
  c.tell_line.ensures.said ∙ c.compared_answer-said.ensures,
  line_as _ _ _ _ _ _ _ _
      (c.as_bytes-line.ensures.value ∙ c.compared_line.ensures) c.compared_status.ensures c.tell_line.ensures.line,
)

pub returns-in-Err : goal.returns-in-Err
returns-in-Err c =
    inr (c.in-Err.fault, c.in-Err.ensures.refused, c.tell_failure.ensures.said, c.tell_failure.ensures.line)
