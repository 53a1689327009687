use Rattle.std.proofs.Common.{rules, ◌≡◌, ◌≢◌, ℕ, List, Some, Err, sym, ap, ◌∙◌}
use Rattle.check_fit.specs.declared.rules.TokenRule.TheVariants as rule
use Rattle.check_fit.specs.declared.rules.TokenRefused.TheVariants as refused
use Rattle.digests.specs.Digests.{alg_of}
use Rattle.check_verdict.specs.Passing.{Terms, Due, of_digest}
use Rattle.check_verdict.specs.Checkers.{terms_for}
use Rattle.check_verdict.proofs.TokenVerdicts.{claim_fails, completes, none_due, claim_by, given_other, given_same}
use Rattle.check_verdict.proofs.stamp.judge_stamp.Given.{Over}
use Rattle.check_verdict.proofs.stamp.judge_stamp.Goals.{After-judge_imprint}
use Rattle.check_verdict.proofs.stamp.judge_stamp.Goals as goal

-- the octets of the digest are due, by the algorithm of the imprint
wanted : (g : Over) (c : After-judge_imprint g) (due : Due)
    → due c.args.stamp.now.alg ≡ of_digest c.args.digest.now c.args.stamp.now.alg
    → due c.args.stamp.now.alg ≡ Some c.bytes.result.now
wanted g c due is =
    let equal : c.alg.result ≡ c.alg-2.result = search rules in
    is ∙ given_same c.args.digest.now c.args.stamp.now.alg (sym c.alg.ensures ∙ equal ∙ c.alg-2.ensures)
    ∙ ap (λ (octets : List ℕ). Some octets) (sym c.bytes.ensures.octets)

pub returns-then-ne-clause-judged : goal.returns-then-ne-clause-judged
returns-then-ne-clause-judged g c = λ token due is wanted.
    let t : Terms = terms_for c.args.checker.now (g.V.Verifier.vouches c.args.verifier.now) in
    let unequal : c.alg.result ≢ c.alg-2.result = search rules in
    let other : c.args.stamp.now.alg ≢ alg_of c.args.digest.now =
    λ e. unequal (c.alg.ensures ∙ e ∙ sym c.alg-2.ensures) in
    let k = claim_by c.args.checker.now.policy token due c.args.stamp.now is (Err rule.ImprintAlgorithm)
    (none_due due c.args.stamp.now (wanted ∙ given_other c.args.digest.now c.args.stamp.now.alg other)) in
    claim_fails t token due k.0 k.1 k.2 rule.ImprintAlgorithm (sym k.3)

pub returns-then-ne-clause-complete : goal.returns-then-ne-clause-complete
returns-then-ne-clause-complete g c = λ token due is wanted.
    let t : Terms = terms_for c.args.checker.now (g.V.Verifier.vouches c.args.verifier.now) in
    completes t token due (Err (refused.Rule rule.ImprintAlgorithm))
    (returns-then-ne-clause-judged g c token due is wanted)

pub returns-then-ne-clause-only : goal.returns-then-ne-clause-only
returns-then-ne-clause-only g c = λ token due is wanted test asks. g.V.Verifier.asked_nothing test _

pub returns-clause-judged : goal.returns-clause-judged
returns-clause-judged g c = λ token due is given. c.judge_imprint.ensures.judged token due is
    (wanted g (goal.at.returns-clause-judged g c).After-judge_imprint due given)

pub returns-clause-complete : goal.returns-clause-complete
returns-clause-complete g c = λ token due is given.
    let t : Terms = terms_for c.args.checker.now (g.V.Verifier.vouches c.args.verifier.now) in
    completes t token due c.judge_imprint.result (returns-clause-judged g c token due is given)

pub returns-clause-only : goal.returns-clause-only
returns-clause-only g c = λ token due is given. c.judge_imprint.ensures.only token due is
    (wanted g (goal.at.returns-clause-only g c).After-judge_imprint due given)
