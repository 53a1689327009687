use Rattle.std.proofs.Common.{inl, inr}
use Rattle.std.proofs.lemmas.Result.{err_from_is_err_and}
use Rattle.cli_values.proofs.Held.{held_as}
use Rattle.cli_commands.proofs.matching.matched.Goals as goal

pub returns-in_err-token-clause-refused : goal.returns-in_err-token-clause-refused
returns-in_err-token-clause-refused g c =
    let p = err_from_is_err_and c.from_residual-in_err-token.result c.from_residual-in_err-token.ensures.1 in
    rw (p.1, p.2) (inr (inr (inr (inl (
      c.as_slice.result.now,
      c.as_slice-2.result.now,
      held_as _ _ _ c.as_slice.ensures.value c.in_ok-request.ensures.whole,
      held_as _ _ _ c.as_slice-2.ensures.value c.in_ok-response.ensures.whole,
      c.in_err-token.ensures.refused,
    )))))
