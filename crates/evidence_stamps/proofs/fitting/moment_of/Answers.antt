use Rattle.std.proofs.Common.{◌≡◌, Ok, Err, refl, subst, rules, Result, ℕ}
use Rattle.check_fit.specs.declared.policy.Policy.{Policy}
use Rattle.check_fit.specs.declared.rules.TokenRefused.{TokenRefused}
use Rattle.check_fit.specs.declared.rules.TokenRefused.TheVariants as refused
use Rattle.check_verdict.specs.Passing.{Terms, of_digest}
use Rattle.check_verdict.specs.Checkers.{terms_for}
use Rattle.check_verdict.specs.TokenRules.{IsStatement}
use Rattle.check_verdict.specs.TokenVerdicts.{IsVerdictFor}
use Rattle.evidence_stamps.proofs.fitting.moment_of.Given.{Over}
use Rattle.evidence_stamps.proofs.fitting.moment_of.Goals.{After-judge_stamp}
use Rattle.evidence_stamps.proofs.fitting.moment_of.Goals as goal

-- this is what the token states by the policy of the check
stated : (g : Over) (c : After-judge_stamp g)
    → IsStatement c.args.checker.now.policy c.args.token.now (Ok c.in-Ok.stamp)
stated g c = subst (λ (p : Policy). IsStatement p c.args.token.now (Ok c.in-Ok.stamp)) c.policy.ensures c.in-Ok.ensures

pub returns-in-Err-clause-only : goal.returns-in-Err-clause-only
returns-in-Err-clause-only g c = λ test asks. g.V.Verifier.asked_nothing test _

pub returns-in-Ok-judge_stamp-clause-only : goal.returns-in-Ok-judge_stamp-clause-only
returns-in-Ok-judge_stamp-clause-only g c = c.judge_stamp.ensures.only c.args.token.now (of_digest c.args.root.now)
    (stated g (goal.at.returns-in-Ok-judge_stamp-clause-only g c).After-judge_stamp) refl

pub returns-in-Err-Rule-clause-judged : goal.returns-in-Err-Rule-clause-judged
returns-in-Err-Rule-clause-judged g c =
    let t : Terms = terms_for c.args.checker.now (g.V.Verifier.vouches c.args.verifier.now) in
    let is : c.judge_stamp.result ≡ Err (refused.Rule c.in-Err-Rule.failed) = search rules in
    subst (λ (r : Result ℕ TokenRefused). IsVerdictFor t c.args.token.now (of_digest c.args.root.now) r) is
    (c.judge_stamp.ensures.judged c.args.token.now (of_digest c.args.root.now)
    (stated g (goal.at.returns-in-Err-Rule-clause-judged g c).After-judge_stamp) refl)

pub returns-in-Err-Rule-clause-only : goal.returns-in-Err-Rule-clause-only
returns-in-Err-Rule-clause-only g c = c.judge_stamp.ensures.only c.args.token.now (of_digest c.args.root.now)
    (stated g (goal.at.returns-in-Err-Rule-clause-only g c).After-judge_stamp) refl

pub returns-in-Err-Device-clause-only : goal.returns-in-Err-Device-clause-only
returns-in-Err-Device-clause-only g c = c.judge_stamp.ensures.only c.args.token.now (of_digest c.args.root.now)
    (stated g (goal.at.returns-in-Err-Device-clause-only g c).After-judge_stamp) refl
