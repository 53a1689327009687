use Rattle.std.proofs.Common.{inl, inr}
use Rattle.library_calls.proofs.matching.tell_token.Goals as goal

pub returns-in-Ok : goal.returns-in-Ok
returns-in-Ok c = inl (c.in-Ok.token.now, c.in-Ok.ensures.answers, c.tell_made.ensures)

pub returns-in-Err : goal.returns-in-Err
returns-in-Err c = inr (c.in-Err.why, c.in-Err.ensures.refused, c.tell_unmade.ensures)
