use Rattle.std.proofs.Common.{inl, inr, sym, subst}
use Rattle.std.proofs.lemmas.Result.{err_from_is_err_and}
use Rattle.check_verdict.specs.Checkers.{CheckerValue}
use Rattle.cli_commands.specs.Lists.{IsCheckerOf}
use Rattle.cli_commands.proofs.checking.check.Goals as goal

pub returns-in_err-answers-clause-refused : goal.returns-in_err-answers-clause-refused
returns-in_err-answers-clause-refused g c =
    let p = err_from_is_err_and c.from_residual-in_err-answers.result c.from_residual-in_err-answers.ensures.1 in
    rw (p.1, p.2) (inr (inl c.in_err-answers.ensures.refused))

pub returns-clause-accepted : goal.returns-clause-accepted
returns-clause-accepted g c = c.check_by.ensures.accepted
    (subst (λ (k : CheckerValue). IsCheckerOf g.R.File.Read.remaining c.args.words.now.sha1 k)
    (sym c.of-checker.ensures) (c.in_ok-trust.ensures.found, c.with_sha1.ensures)) c.in_ok-answers.ensures.found

pub returns-clause-refused : goal.returns-clause-refused
returns-clause-refused g c = c.check_by.ensures.refused
    (subst (λ (k : CheckerValue). IsCheckerOf g.R.File.Read.remaining c.args.words.now.sha1 k)
    (sym c.of-checker.ensures) (c.in_ok-trust.ensures.found, c.with_sha1.ensures)) c.in_ok-answers.ensures.found
