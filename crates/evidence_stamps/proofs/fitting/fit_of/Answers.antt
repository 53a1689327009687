use Rattle.std.proofs.Common.{◌≡◌, ◌∙◌, ℕ, List, Option, Some, None, Result, Ok, Err}
use Rattle.std.proofs.Common.{sym, subst, rules}
use Rattle.check_verdict.specs.Passing.{Terms, of_digest}
use Rattle.check_verdict.specs.Asks.{AsksOnly}
use Rattle.check_verdict.specs.Checkers.{terms_for}
use Rattle.check_evidence.specs.Grounds.{Grounds, terms_of}
use Rattle.check_evidence.specs.StampStates.{ShowsAlg}
use Rattle.evidence_stamps.specs.declared.unfit.Fit.{Fit}
use Rattle.evidence_stamps.specs.declared.unfit.Unfit.{Unfit}
use Rattle.evidence_stamps.specs.FitSteps.{IsBy, IsFitOf, IsAskedOfStamp, IsRootFor, PassesOrFails, IsBetween}
use Rattle.evidence_stamps.proofs.Fitted.{same_terms, fails_alg, fails_order, fits, no_moment, asked_of}
use Rattle.evidence_stamps.proofs.Fitted.{states_nothing}
use Rattle.evidence_stamps.proofs.fitting.fit_of.Given.{Over}
use Rattle.evidence_stamps.proofs.fitting.fit_of.Goals.{After-moment_of}
use Rattle.evidence_stamps.proofs.fitting.fit_of.Goals as goal

-- the digest is the root of its lists
is_root : (g : Over) (c : After-moment_of g) → IsRootFor c.in-Some.alg c.args.stamp.now.lists
    c.args.around.now.covered c.in_ok-root.root
is_root g c = subst (λ (lists : Option (List (List (List ℕ)))). IsRootFor c.in-Some.alg lists
    c.args.around.now.covered c.in_ok-root.root) c.lists.ensures c.in_ok-root.ensures.root

-- its token passes with a moment, or fails
passes : (g : Over) (c : After-moment_of g) (h : Grounds)
    → IsBy h c.args.checker.now (g.V.Verifier.vouches c.args.verifier.now)
    → PassesOrFails (terms_of h) c.args.stamp.now.stamp (of_digest c.in_ok-root.root) c.moment_of.result
passes g c h by =
    subst (λ (t : Terms). PassesOrFails t c.args.stamp.now.stamp (of_digest c.in_ok-root.root) c.moment_of.result)
    (same_terms h c.args.checker.now (g.V.Verifier.vouches c.args.verifier.now) by)
    (subst (λ (token : List ℕ). PassesOrFails
    (terms_for c.args.checker.now (g.V.Verifier.vouches c.args.verifier.now)) token (of_digest c.in_ok-root.root)
    c.moment_of.result) c.stamp-2.ensures c.moment_of.ensures.judged)

-- the verifier is asked about it alone
asks : (g : Over) (c : After-moment_of g)
    → AsksOnly (λ test. g.V.Verifier.asked_only test c.args.verifier.now c.moment_of.new.verifier)
    (IsAskedOfStamp c.args.checker.now c.args.stamp.now c.args.around.now)
asks g c = λ test tests. c.moment_of.ensures.only test (λ q about. tests q
    (asked_of c.args.checker.now c.args.stamp.now c.args.around.now
    c.in-Some.alg c.in-Some.ensures.found.0 c.in-Some.ensures.found.1 c.in_ok-root.root (is_root g c)
    c.stamp-2.result.now c.stamp-2.ensures q about))

pub rule_of_unread-failed-requires : goal.rule_of_unread-failed-requires
rule_of_unread-failed-requires g c =
    let hides : ShowsAlg c.args.stamp.now.algorithm c.args.stamp.now → ⊥ = search rules in
    states_nothing c.args.stamp.now hides c.stamp.result.now c.stamp.ensures

pub returns-in_default-clause-judged : goal.returns-in_default-clause-judged
returns-in_default-clause-judged g c = λ h ds p is by ar.
    let shows : ShowsAlg c.args.stamp.now.algorithm c.args.stamp.now = search rules in
    fails_alg h ds p c.args.stamp.now is c.args.around.now ar shows
    (λ alg own chain. let z : None ≡ Some alg = sym c.in_default.is ∙ c.alg_in_chain.ensures.only alg own chain in
    absurd cc)

pub returns-in_default-clause-only : goal.returns-in_default-clause-only
returns-in_default-clause-only g c = λ test tests. g.V.Verifier.asked_nothing test _

pub returns-in_err-root-clause-only : goal.returns-in_err-root-clause-only
returns-in_err-root-clause-only g c = λ test tests. g.V.Verifier.asked_nothing test _

pub returns-in_err-moment-clause-judged : goal.returns-in_err-moment-clause-judged
returns-in_err-moment-clause-judged g c = λ h ds p is by ar.
    let at = (goal.at.returns-in_err-moment-clause-judged g c).After-moment_of in
    let failed : c.moment_of.result ≡ Err c.in_err-moment.field-0.0 = search rules in
    let said : c.from_residual-in_err-moment.result ≡ Err c.in_err-moment.field-0.0 = search rules in
    subst (λ (r : Result Fit Unfit). IsFitOf h ds p r) (sym said)
    (no_moment h ds p c.args.stamp.now is c.args.around.now ar c.in-Some.alg c.in-Some.ensures.found.0
    c.in-Some.ensures.found.1 c.in_ok-root.root (is_root g at) c.in_err-moment.field-0.0
    (subst (λ (r : Result ℕ Unfit). PassesOrFails (terms_of h) c.args.stamp.now.stamp
    (of_digest c.in_ok-root.root) r) failed (passes g at h by)))

pub returns-in_err-moment-clause-only : goal.returns-in_err-moment-clause-only
returns-in_err-moment-clause-only g c = asks g (goal.at.returns-in_err-moment-clause-only g c).After-moment_of

pub returns-then-not-is_between-clause-judged : goal.returns-then-not-is_between-clause-judged
returns-then-not-is_between-clause-judged g c = λ h ds p is by ar.
    let at = (goal.at.returns-then-not-is_between-clause-judged g c).After-moment_of in
    let passed : c.moment_of.result ≡ Ok c.in_ok-moment.moment = search rules in
    let not : IsBetween c.args.around.now c.in_ok-moment.moment → ⊥ = search rules in
    fails_order h ds p c.args.stamp.now is c.args.around.now ar c.in-Some.alg c.in-Some.ensures.found.0
    c.in-Some.ensures.found.1 c.in_ok-root.root (is_root g at) c.in_ok-moment.moment
    (subst (λ (r : Result ℕ Unfit). PassesOrFails (terms_of h) c.args.stamp.now.stamp
    (of_digest c.in_ok-root.root) r) passed (passes g at h by)) not

pub returns-then-not-is_between-clause-only : goal.returns-then-not-is_between-clause-only
returns-then-not-is_between-clause-only g c =
    asks g (goal.at.returns-then-not-is_between-clause-only g c).After-moment_of

pub returns-clause-judged : goal.returns-clause-judged
returns-clause-judged g c = λ h ds p is by ar.
    let at = (goal.at.returns-clause-judged g c).After-moment_of in
    let passed : c.moment_of.result ≡ Ok c.in_ok-moment.moment = search rules in
    let between : IsBetween c.args.around.now c.in_ok-moment.moment = search rules in
    fits h ds p c.args.stamp.now is c.args.around.now ar c.in-Some.alg c.in-Some.ensures.found.0
    c.in-Some.ensures.found.1 c.in_ok-root.root (is_root g at) c.in_ok-moment.moment
    (subst (λ (r : Result ℕ Unfit). PassesOrFails (terms_of h) c.args.stamp.now.stamp
    (of_digest c.in_ok-root.root) r) passed (passes g at h by)) between

pub returns-clause-only : goal.returns-clause-only
returns-clause-only g c = asks g (goal.at.returns-clause-only g c).After-moment_of
