use Rattle.std.proofs.Common.{rules, ◌≡◌, ℕ, List, true, false, IsTrue, refl}
use Rattle.check_verdict.specs.Asks.{AsksOnly}
use Rattle.check_evidence.specs.Grounds.{Grounds}
use Rattle.check_evidence.specs.StampStates.{IsUntil}
use Rattle.check_evidence.specs.Standing.{FitsIn}
use Rattle.judge_evidence.specs.Asking.{IsAskedToLastAt}
use Rattle.judge_evidence.specs.Terms.{grounds_of}
use Rattle.judge_evidence.proofs.EndOfUse.{is_weak, is_lapsed, it_stands, asked_to_last, false_not_true}
use Rattle.judge_evidence.proofs.lapsing.lapse_at.Given.{Over}
use Rattle.judge_evidence.proofs.lapsing.lapse_at.Goals.{After-lasts}
use Rattle.judge_evidence.proofs.lapsing.lapse_at.Goals as goal

-- the verifier is asked about it alone
asks : (g : Over) (c : After-lasts g) → (ds : List (List ℕ))
    → FitsIn (grounds_of c.args.terms.now (g.V.Verifier.vouches c.args.verifier.now)) ds c.args.place.now
    c.args.fit.now.alg c.args.fit.now.moment
    → IsUntil c.args.terms.now.at c.args.place.now c.args.until
    → AsksOnly (λ test. g.V.Verifier.asked_only test c.args.verifier.now c.lasts.new.verifier)
    (IsAskedToLastAt (grounds_of c.args.terms.now (g.V.Verifier.vouches c.args.verifier.now)) ds c.args.place.now)
asks g c ds f u test tests =
    let t : Grounds = grounds_of c.args.terms.now (g.V.Verifier.vouches c.args.verifier.now) in
    let succeeds : c.algs_hold.result ≡ true = search rules in
    c.lasts.ensures.only test (λ q about. tests q (asked_to_last t ds c.args.place.now c.args.fit.now.alg
    c.args.fit.now.moment f c.args.state.now c.requires c.signer_alg.result c.args.until u c.signer_alg.ensures
    c.algs_hold.result c.algs_hold.ensures succeeds q about))

pub returns-then-not-algs_hold-clause-judged : goal.returns-then-not-algs_hold-clause-judged
returns-then-not-algs_hold-clause-judged g c = λ ds f u.
    let fails : c.algs_hold.result ≡ false = search rules in
    is_weak (grounds_of c.args.terms.now (g.V.Verifier.vouches c.args.verifier.now)) ds c.args.place.now
    c.args.fit.now.alg c.args.fit.now.moment f c.args.state.now c.requires c.signer_alg.result c.args.until u
    c.signer_alg.ensures c.algs_hold.result c.algs_hold.ensures fails

pub returns-then-branch-clause-judged : goal.returns-then-branch-clause-judged
returns-then-branch-clause-judged g c = λ ds f u.
    let t : Grounds = grounds_of c.args.terms.now (g.V.Verifier.vouches c.args.verifier.now) in
    let succeeds : c.algs_hold.result ≡ true = search rules in
    let lasts : IsTrue c.in_ok-lasts.field-0 = search rules in
    it_stands t ds c.args.place.now c.args.fit.now.alg c.args.fit.now.moment f c.args.state.now c.requires
    c.signer_alg.result c.args.until u c.signer_alg.ensures c.algs_hold.result c.algs_hold.ensures succeeds
    ((c.in_ok-lasts.ensures.lasts t refl refl).0 lasts)

pub returns-else-branch-clause-judged : goal.returns-else-branch-clause-judged
returns-else-branch-clause-judged g c = λ ds f u.
    let t : Grounds = grounds_of c.args.terms.now (g.V.Verifier.vouches c.args.verifier.now) in
    let succeeds : c.algs_hold.result ≡ true = search rules in
    let ends : c.in_ok-lasts.field-0 ≡ false = search rules in
    is_lapsed t ds c.args.place.now c.args.fit.now.alg c.args.fit.now.moment f c.args.state.now c.requires
    c.signer_alg.result c.args.until u c.signer_alg.ensures c.algs_hold.result c.algs_hold.ensures succeeds
    (λ h. false_not_true c.in_ok-lasts.field-0 ends ((c.in_ok-lasts.ensures.lasts t refl refl).1 h))

pub returns-then-not-algs_hold-clause-only : goal.returns-then-not-algs_hold-clause-only
returns-then-not-algs_hold-clause-only g c = λ ds f u test tests. g.V.Verifier.asked_nothing test _

pub returns-in_err-lasts-clause-only : goal.returns-in_err-lasts-clause-only
returns-in_err-lasts-clause-only g c = asks g (goal.at.returns-in_err-lasts-clause-only g c).After-lasts

pub returns-then-branch-clause-only : goal.returns-then-branch-clause-only
returns-then-branch-clause-only g c = asks g (goal.at.returns-then-branch-clause-only g c).After-lasts

pub returns-else-branch-clause-only : goal.returns-else-branch-clause-only
returns-else-branch-clause-only g c = asks g (goal.at.returns-else-branch-clause-only g c).After-lasts
