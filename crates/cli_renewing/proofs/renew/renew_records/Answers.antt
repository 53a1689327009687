use Rattle.std.proofs.Common.{List, ℕ, None, inr, sym, subst}
use Rattle.std.specs.Borrow.{Bor}
use Rattle.std.proofs.lemmas.Result.{err_from_is_err_and}
use Rattle.cli_failures.specs.Files.{IsHeld}
use Rattle.cli_renewing.specs.Keeping.{system_ways}
use Rattle.cli_renewing.specs.Unrenewed.{AreUnrenewed}
use Rattle.cli_renewing.proofs.renew.renew_records.Goals as goal

pub returns-in_err-renew_all-clause-failed : goal.returns-in_err-renew_all-clause-failed
returns-in_err-renew_all-clause-failed g c =
    let p = err_from_is_err_and c.from_residual-in_err-renew_all.result
    c.from_residual-in_err-renew_all.ensures.1 in
    rw (p.1, p.2)
    (inr (inr (
      c.as_slice-3.result.now,
      subst (λ (os : List ℕ). IsHeld g.R.File.Read.remaining os) (sym c.as_slice-3.ensures.value)
          c.in_ok-token.ensures.whole,
      subst (λ (ps : List (Bor (List ℕ))). AreUnrenewed (system_ways g.R.File.Read.remaining g.R.File.Write.contents)
          None None ps c.as_slice-3.result.now c.in_err-renew_all.field-0.0) c.as_slice-2.ensures.value
          c.in_err-renew_all.ensures.failed,
    )))
