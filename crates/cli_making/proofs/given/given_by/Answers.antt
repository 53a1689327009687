use Rattle.std.proofs.Common.{inl, inr}
use Rattle.std.proofs.lemmas.Result.{err_from_is_err_and}
use Rattle.cli_making.proofs.ByImprint.{may_name}
use Rattle.cli_making.proofs.given.given_by.Goals as goal

pub returns-in_err-text-clause-refused : goal.returns-in_err-text-clause-refused
returns-in_err-text-clause-refused g c =
    let p = err_from_is_err_and c.from_residual-in_err-text.result c.from_residual-in_err-text.ensures.1 in
    rw (p.1, p.2) (inr (may_name _ c.in_ok-named.named c.in_ok-named.ensures.found, inl c.in_err-text.ensures.failure))

pub returns-in_err-token-clause-refused : goal.returns-in_err-token-clause-refused
returns-in_err-token-clause-refused g c =
    let p = err_from_is_err_and c.from_residual-in_err-token.result c.from_residual-in_err-token.ensures.1 in
    rw (p.1, p.2)
    (inr (
      may_name _ c.in_ok-named.named c.in_ok-named.ensures.found,
      inr (c.in_ok-text.text.items, c.in_ok-text.ensures.whole, inl c.in_err-token.ensures.failure),
    ))
