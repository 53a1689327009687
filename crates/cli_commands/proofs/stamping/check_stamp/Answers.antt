use Rattle.std.proofs.Common.{inl, inr}
use Rattle.std.proofs.lemmas.Result.{err_from_is_err_and}
use Rattle.trust_lists.specs.Asking.{is_among}
use Rattle.check_verdict.specs.TokenVerdicts.{terms_of}
use Rattle.cli_commands.specs.Checking.{IsTerms}
use Rattle.cli_commands.specs.Stamping.{IsTokenHeld}
use Rattle.cli_commands.proofs.Checked.{terms}
use Rattle.cli_values.proofs.Held.{held_as}
use Rattle.cli_commands.proofs.StampsChecked.{accepts, fails, refuses, states_nothing, under}
use Rattle.cli_commands.proofs.stamping.check_stamp.Given.{Over}
use Rattle.cli_commands.proofs.stamping.check_stamp.Goals.{After-read}
use Rattle.cli_commands.proofs.stamping.check_stamp.Goals as goal

pub returns-in_err-answers-clause-refused : goal.returns-in_err-answers-clause-refused
returns-in_err-answers-clause-refused g c =
    let p = err_from_is_err_and c.from_residual-in_err-answers.result c.from_residual-in_err-answers.ensures.1 in
    rw (p.1, p.2) (inr (inl c.in_err-answers.ensures.refused))

pub returns-in_err-token-clause-refused : goal.returns-in_err-token-clause-refused
returns-in_err-token-clause-refused g c =
    let p = err_from_is_err_and c.from_residual-in_err-token.result c.from_residual-in_err-token.ensures.1 in
    rw (p.1, p.2) (inr (inr (inr (inl (
      c.as_slice.result.now,
      held_as _ _ _ c.as_slice.ensures.value c.in_ok-octets.ensures.whole,
      c.in_err-token.ensures.refused,
    )))))

pub returns-in_err-open-clause-refused : goal.returns-in_err-open-clause-refused
returns-in_err-open-clause-refused g c =
    let p = err_from_is_err_and c.from_residual-in_err-open.result c.from_residual-in_err-open.ensures.1 in
    rw (p.1, p.2) (inr (inr (inr (inr (inl c.in_err-open.ensures)))))

-- what the lists say
by_lists : (g : Over) (c : After-read g)
    → IsTerms g.R.File.Read.remaining c.args.words.now.sha1
    (terms_of c.with_sha1-policy.result c.in_ok-trust.trust
    (λ q. is_among c.in_ok-answers.answers q))
by_lists g c = terms g.R.File.Read.remaining c.args.words.now.sha1 c.with_sha1-policy.result
    c.in_ok-trust.trust c.in_ok-answers.answers c.with_sha1-policy.ensures c.in_ok-trust.ensures.found
    c.in_ok-answers.ensures.found

-- the token of the stamp's file
held : (g : Over) (c : After-read g) → IsTokenHeld g.R.File.Read.remaining c.in_ok-token.token.now
held g c = (
  c.as_slice.result.now,
  held_as _ _ _ c.as_slice.ensures.value c.in_ok-octets.ensures.whole,
  c.in_ok-token.ensures.held,
)

pub returns-in-Err-clause-refused : goal.returns-in-Err-clause-refused
returns-in-Err-clause-refused g c =
    let at = (goal.at.returns-in-Err-clause-refused g c).After-read in
    states_nothing g.R.File.Read.remaining c.args.words.now _ (by_lists g at) _ (held g at)
    c.in-Err.rule c.in-Err.ensures

pub returns-in_err-accepted-clause-refused : goal.returns-in_err-accepted-clause-refused
returns-in_err-accepted-clause-refused g c =
    let at = (goal.at.returns-in_err-accepted-clause-refused g c).After-read in
    let p = err_from_is_err_and c.from_residual-in_err-accepted.result c.from_residual-in_err-accepted.ensures.1 in
    rw (p.1, p.2) (fails g.R.File.Read.remaining c.args.words.now _ (by_lists g at) _ (held g at)
    _ _ _ _ c.judge_stamp_of-verdict.result c.in_err-accepted.field-0.0
    (under c.of-checker.result _ (λ q. is_among c.in_ok-answers.answers q) _ _ _ _ _ _ _ _ c.of-checker.ensures
    c.in-Ok.ensures c.judge_stamp_of-verdict.ensures.judged) c.in_err-accepted.ensures)

pub returns-clause-accepted : goal.returns-clause-accepted
returns-clause-accepted g c =
    let at = (goal.at.returns-clause-accepted g c).After-read in
    accepts g.R.File.Read.remaining c.args.words.now _ (by_lists g at) _ (held g at)
    _ _ _ _ (λ (v : _). v.items) c.judge_stamp_of-verdict.result _ c.line_of.result
    (under c.of-checker.result _ (λ q. is_among c.in_ok-answers.answers q) _ _ _ _ _ _ _ _ c.of-checker.ensures
    c.in-Ok.ensures c.judge_stamp_of-verdict.ensures.judged) c.in_ok-accepted.ensures c.line_of.ensures

pub returns-clause-refused : goal.returns-clause-refused
returns-clause-refused g c =
    let at = (goal.at.returns-clause-refused g c).After-read in
    refuses g.R.File.Read.remaining c.args.words.now _ (by_lists g at) _ (held g at)
    _ _ _ _ (λ (v : _). v.items) c.judge_stamp_of-verdict.result _ c.line_of.result
    (under c.of-checker.result _ (λ q. is_among c.in_ok-answers.answers q) _ _ _ _ _ _ _ _ c.of-checker.ensures
    c.in-Ok.ensures c.judge_stamp_of-verdict.ensures.judged) c.judge_stamp_of-verdict.ensures.count
    c.in_ok-accepted.ensures c.line_of.ensures
