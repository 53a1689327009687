use Rattle.std.proofs.Common.{◌≡◌, Bool, true, Ok, Err, refl, sym, subst}
use Rattle.check_fit.specs.declared.rules.TokenRefused.TheVariants as refused
use Rattle.trust_lists.specs.Asking.{Asked}
use Rattle.check_verdict.specs.Passing.{Terms, of_digest}
use Rattle.check_verdict.specs.Asks.{IsAskedFor}
use Rattle.check_verdict.specs.Checkers.{CheckerValue, terms_for}
use Rattle.check_verdict.specs.TokenRules.{IsStatement}
use Rattle.check_verdict.specs.TokenVerdicts.{terms_of, IsVerdictFor}
use Rattle.check_verdict.proofs.TokenVerdicts.{statement_fails, completes}
use Rattle.check_verdict.proofs.stamp.check_stamp.Given.{Over}
use Rattle.check_verdict.proofs.stamp.check_stamp.Goals.{After-judge_stamp}
use Rattle.check_verdict.proofs.stamp.check_stamp.Goals as goal

-- what the token states, by the checker's policy
stated : (g : Over) (c : After-judge_stamp g)
    → IsStatement c.of-checker.result.policy c.args.token.now (Ok c.in-Ok.stamp)
stated g c = subst (λ (k : CheckerValue). IsStatement k.policy c.args.token.now (Ok c.in-Ok.stamp))
    (sym c.of-checker.ensures) c.in-Ok.ensures

pub returns-in-Err-clause-complete : goal.returns-in-Err-clause-complete
returns-in-Err-clause-complete g c =
    let t : Terms = terms_of c.args.policy.now c.args.trust.now (g.V.Verifier.vouches c.args.verifier.now) in
    let k = c.in-Err.ensures in
    completes t c.args.token.now (of_digest c.args.digest.now) (Err (refused.Rule c.in-Err.rule))
    (statement_fails t c.args.token.now (of_digest c.args.digest.now) k.0 k.1 k.2 c.in-Err.rule (sym k.3))

pub returns-in-Err-clause-only : goal.returns-in-Err-clause-only
returns-in-Err-clause-only g c = λ test asks. g.V.Verifier.asked_nothing test _

pub returns-clause-judged : goal.returns-clause-judged
returns-clause-judged g c =
    subst (λ (k : CheckerValue). IsVerdictFor (terms_for k (g.V.Verifier.vouches c.args.verifier.now)) c.args.token.now
    (of_digest c.args.digest.now) c.judge_stamp.result) c.of-checker.ensures
    (c.judge_stamp.ensures.judged c.args.token.now (of_digest c.args.digest.now)
    (stated g (goal.at.returns-clause-judged g c).After-judge_stamp) refl)

pub returns-clause-complete : goal.returns-clause-complete
returns-clause-complete g c =
    let t : Terms = terms_of c.args.policy.now c.args.trust.now (g.V.Verifier.vouches c.args.verifier.now) in
    completes t c.args.token.now (of_digest c.args.digest.now) c.judge_stamp.result (returns-clause-judged g c)

pub returns-clause-only : goal.returns-clause-only
returns-clause-only g c =
    subst (λ (k : CheckerValue). (test : Asked → Bool) → ((q : Asked) → IsAskedFor k.policy k.trust
    (of_digest c.args.digest.now) c.args.token.now q → test q ≡ true)
    → g.V.Verifier.asked_only test c.args.verifier.now c.judge_stamp.new.verifier) c.of-checker.ensures
    (c.judge_stamp.ensures.only c.args.token.now (of_digest c.args.digest.now)
    (stated g (goal.at.returns-clause-only g c).After-judge_stamp) refl)
