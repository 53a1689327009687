use Rattle.std.proofs.Common.{◌≡◌, ℕ, List, Some, Ok, Err, sym, ap, subst, ◌∙◌}
use Rattle.check_fit.specs.declared.policy.Policy.{Policy}
use Rattle.check_fit.specs.declared.rules.TokenRefused.TheVariants as refused
use Rattle.digests.specs.Messages.{digest_of}
use Rattle.digests.specs.declared.algorithm.Alg.{Alg}
use Rattle.check_verdict.specs.Passing.{Terms, of_octets}
use Rattle.check_verdict.specs.TokenRules.{IsStatement}
use Rattle.check_verdict.specs.Checkers.{terms_for}
use Rattle.check_verdict.proofs.TokenVerdicts.{statement_fails, completes}
use Rattle.check_verdict.proofs.token.judge_token.Given.{Over}
use Rattle.check_verdict.proofs.token.judge_token.Goals.{In-Ok, After-judge_imprint}
use Rattle.check_verdict.proofs.token.judge_token.Goals as goal

-- what the token states, by the checker's policy
stated : (g : Over) (c : In-Ok g) → IsStatement c.args.checker.now.policy c.args.token.now (Ok c.in-Ok.stamp)
stated g c = subst (λ (p : Policy). IsStatement p c.args.token.now (Ok c.in-Ok.stamp)) c.policy.ensures c.in-Ok.ensures

-- the digest of what was stamped is due by its algorithm
wanted : (g : Over) (c : After-judge_imprint g)
    → of_octets c.args.stamped.now c.in-Ok.stamp.alg ≡ Some c.bytes.result.now
wanted g c = ap (λ (octets : List ℕ). Some octets) (sym (c.bytes.ensures.octets ∙ c.digest-digest.ensures.octets
    ∙ ap (λ (a : Alg). digest_of a c.args.stamped.now) c.alg.ensures))

pub returns-in-Err-clause-complete : goal.returns-in-Err-clause-complete
returns-in-Err-clause-complete g c =
    let t : Terms = terms_for c.args.checker.now (g.V.Verifier.vouches c.args.verifier.now) in
    let k = subst (λ (p : Policy). IsStatement p c.args.token.now (Err c.in-Err.rule)) c.policy.ensures
    c.in-Err.ensures in
    completes t c.args.token.now (of_octets c.args.stamped.now) (Err (refused.Rule c.in-Err.rule))
    (statement_fails t c.args.token.now (of_octets c.args.stamped.now) k.0 k.1 k.2 c.in-Err.rule (sym k.3))

pub returns-in-Err-clause-only : goal.returns-in-Err-clause-only
returns-in-Err-clause-only g c = λ test asks. g.V.Verifier.asked_nothing test _

pub returns-clause-judged : goal.returns-clause-judged
returns-clause-judged g c =
    let at = goal.at.returns-clause-judged g c in
    c.judge_imprint.ensures.judged c.args.token.now (of_octets c.args.stamped.now) (stated g at.In-Ok)
    (wanted g at.After-judge_imprint)

pub returns-clause-complete : goal.returns-clause-complete
returns-clause-complete g c =
    let t : Terms = terms_for c.args.checker.now (g.V.Verifier.vouches c.args.verifier.now) in
    completes t c.args.token.now (of_octets c.args.stamped.now) c.judge_imprint.result (returns-clause-judged g c)

pub returns-clause-only : goal.returns-clause-only
returns-clause-only g c =
    let at = goal.at.returns-clause-only g c in
    c.judge_imprint.ensures.only c.args.token.now (of_octets c.args.stamped.now) (stated g at.In-Ok)
    (wanted g at.After-judge_imprint)
