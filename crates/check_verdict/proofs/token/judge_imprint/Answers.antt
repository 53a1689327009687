use Rattle.std.proofs.Common.{◌≡◌, ℕ, List, true, Option, Some, Ok, refl, sym, ap, subst, ◌∙◌}
use Rattle.der_core.specs.Lists.{is_same}
use Rattle.check_verdict.specs.Filters.{Best}
use Rattle.check_verdict.specs.Stages.{passed_for_token}
use Rattle.check_verdict.specs.declared.filter.TokenFilter.{TokenFilter}
use Rattle.check_verdict.specs.Passing.{Terms, Due, PassesFor}
use Rattle.check_verdict.specs.TokenRules.{Statement, LeftForToken, IsStatement, IsClaim}
use Rattle.check_verdict.specs.Checkers.{terms_for}
use Rattle.check_verdict.specs.declared.claim.Stamp.TheInside.{Inside}
use Rattle.check_verdict.proofs.TokenVerdicts.{stage_fails, stage_passes, due_then, claim_by}
use Rattle.check_verdict.proofs.token.judge_imprint.Given.{Over}
use Rattle.check_verdict.proofs.token.judge_imprint.Goals.{In-Ok}
use Rattle.check_verdict.proofs.token.judge_imprint.Goals as goal

-- the claim, since the imprint is what is due
claim_is : (g : Over) (c : In-Ok g) (token : List ℕ) (due : Due)
    → IsStatement c.args.checker.now.policy token (Ok c.args.stamp.now)
    → due c.args.stamp.now.alg ≡ Some c.args.imprint.now
    → IsClaim c.args.checker.now.policy due token (Ok c.args.stamp.now.claim)
claim_is g c token due is wanted =
    let equal : is_same c.args.stamp.now.imprint c.args.imprint.now ≡ true =
    subst (λ (x : List ℕ). is_same x c.args.imprint.now ≡ true) (ap (λ (s : Statement). s.imprint) c.stamp.view_is)
    (sym c.is_same.ensures ∙ c.if-not-is_same.false) in
    claim_by c.args.checker.now.policy token due c.args.stamp.now is (Ok c.args.stamp.now.claim)
    (due_then due c.args.stamp.now c.args.imprint.now wanted equal)

-- where the entries stop
best_is : (g : Over) (c : In-Ok g) (best : Option TokenFilter) → c.in-Ok.best ≡ best
    → Best (LeftForToken (terms_for c.args.checker.now (g.V.Verifier.vouches c.args.verifier.now))
    c.args.stamp.now.claim) 5 c.args.checker.now.trust (passed_for_token best)
best_is g c best is =
    let t : Terms = terms_for c.args.checker.now (g.V.Verifier.vouches c.args.verifier.now) in
    subst (λ (o : Option TokenFilter).
    Best (LeftForToken t c.args.stamp.now.claim) 5 c.args.checker.now.trust (passed_for_token o)) is
    (subst (λ (s : Statement). Best (LeftForToken t s.claim) 5 c.args.checker.now.trust
    (passed_for_token c.in-Ok.best)) c.stamp.view_is (c.in-Ok.ensures.stage t refl))

pub returns-then-not-is_same-clause-only : goal.returns-then-not-is_same-clause-only
returns-then-not-is_same-clause-only g c = λ token due is wanted test asks. g.V.Verifier.asked_nothing test _

pub returns-in-Some-clause-judged : goal.returns-in-Some-clause-judged
returns-in-Some-clause-judged g c = λ token due is wanted.
    let t : Terms = terms_for c.args.checker.now (g.V.Verifier.vouches c.args.verifier.now) in
    let at = (goal.at.returns-in-Some-clause-judged g c).In-Ok in
    let k = claim_is g at token due is wanted in
    rw (c.rule.ensures)
    (stage_fails t token due k.0 k.1 k.2 c.args.stamp.now.claim (sym k.3) c.in-Some.failed
    (best_is g at _ c.in-Some.is))

pub returns-in-None-clause-judged : goal.returns-in-None-clause-judged
returns-in-None-clause-judged g c = λ token due is wanted.
    let t : Terms = terms_for c.args.checker.now (g.V.Verifier.vouches c.args.verifier.now) in
    let at = (goal.at.returns-in-None-clause-judged g c).In-Ok in
    let k = claim_is g at token due is wanted in
    let moment : c.args.stamp.now.claim.moment ≡ c.stamp-inside.inside.0.0.moment =
    sym (ap (λ (s : Statement). s.claim.moment) c.stamp.view_is)
    ∙ sym (ap (λ (s : Inside). s.claim.moment) c.stamp-inside.view_is) in
    subst (λ (m : ℕ). PassesFor t token due m) moment
    (stage_passes t token due k.0 k.1 k.2 c.args.stamp.now.claim (sym k.3) (best_is g at _ c.in-None.is))
