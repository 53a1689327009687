use Rattle.std.proofs.Common.{ℕ, List, refl, sym, ap}
use Rattle.evidence_types.specs.StampValue.{StampValue}
use Rattle.check_verdict.specs.Asks.{AsksOnly}
use Rattle.check_verdict.specs.Checkers.{CheckerValue}
use Rattle.check_evidence.specs.Grounds.{Grounds}
use Rattle.check_evidence.specs.Standing.{FitsIn}
use Rattle.evidence_stamps.specs.FitSteps.{IsBy}
use Rattle.evidence_stamps.specs.PlaceValues.{IsAround}
use Rattle.judge_evidence.specs.Asking.{IsAskedAt}
use Rattle.judge_evidence.specs.Data.{AreOfData}
use Rattle.judge_evidence.specs.Running.{IsRunAt}
use Rattle.judge_evidence.specs.Terms.{grounds_of}
use Rattle.judge_evidence.proofs.Asked.{fit_asks, last_asks}
use Rattle.judge_evidence.proofs.Judging.{unfit_run, device_run, fits_run, is_around}
use Rattle.judge_evidence.proofs.Loops.{found_by}
use Rattle.judge_evidence.proofs.walk.judge_at.Given.{Over}
use Rattle.judge_evidence.proofs.walk.judge_at.Goals.{After-fit_of, After-found_of}
use Rattle.judge_evidence.proofs.walk.judge_at.Goals as goal

-- ---- what is handed to `fit_of`

abbrev grounds : (g : Over) → After-fit_of g → Grounds
grounds g c = grounds_of c.args.terms.now (g.V.Verifier.vouches c.args.verifier.now)

by_grounds : (g : Over) (c : After-fit_of g)
    → IsBy (grounds g c) c.args.checker.now (g.V.Verifier.vouches c.args.verifier.now)
by_grounds g c = record {
  policy = ap (λ (k : CheckerValue). k.policy) c.requires.goes;
  trust = ap (λ (k : CheckerValue). k.trust) c.requires.goes;
  answers = refl;
}

around_it : (g : Over) (c : After-fit_of g) (chains : List (List StampValue)) (ds : List (List ℕ))
    → AreOfData c.args.digests.now ds → IsRunAt (grounds g c) ds chains c.args.place.now c.args.run.now
    → IsAround (grounds g c) ds c.args.place.now (record {
      alg = c.chain_alg-alg.result;
      covered = c.covered_at-covered.result;
      before = c.args.run.now.before;
      latest = c.latest_of.result;
    })
around_it g c chains ds are h =
    is_around (grounds g c) ds c.args.place.now c.args.run.now.before c.chain_alg-alg.result
    c.covered_at-covered.result c.latest_of.result c.args.states.now.last c.args.states.now.ahead
    (c.chain_alg-alg.ensures.chain h.alg) (c.covered_at-covered.ensures.covered ds are) h.before c.latest_of.ensures
    c.requires.ahead

pub fit_of-requires-clause-well : goal.fit_of-requires-clause-well
fit_of-requires-clause-well g c = λ a e. record {
  given = c.covered_at-covered.ensures.given a e;
  some = c.covered_at-covered.ensures.some;
}

pub run_past-requires : goal.run_past-requires
run_past-requires g c = c.covered_at-covered.ensures.given c.in-Ok.fit.alg c.in-Ok.ensures.alg

-- ---- what is answered

pub returns-in-Err-clause-judged : goal.returns-in-Err-clause-judged
returns-in-Err-clause-judged g c = λ chains ds are h.
    let at = (goal.at.returns-in-Err-clause-judged g c).After-fit_of in
    let p = c.args.place.now in
    unfit_run (grounds g at) ds chains p c.args.run.now c.in-Err.unfit c.refused_at.result c.refused_at.ensures h
    (c.in-Err.ensures.judged (grounds g at) ds p (sym c.stamp.ensures) (by_grounds g at)
    (around_it g at chains ds are h))

pub returns-in-Err-found_of-clause-judged : goal.returns-in-Err-found_of-clause-judged
returns-in-Err-found_of-clause-judged g c = λ chains ds are h.
    device_run (grounds_of c.args.terms.now (g.V.Verifier.vouches c.args.verifier.now)) ds chains c.args.place.now
    c.in-Err-found_of.refused c.in-Err-found_of.ensures.device

pub returns-clause-judged : goal.returns-clause-judged
returns-clause-judged g c = λ chains ds are h.
    let at = (goal.at.returns-clause-judged g c).After-fit_of in
    let t : Grounds = grounds g at in
    let p = c.args.place.now in
    let f = c.in-Ok.ensures.judged t ds p (sym c.stamp.ensures) (by_grounds g at)
    (around_it g at chains ds are h) in
    let alg = c.in-Ok.fit.alg in
    let due = c.covered_at-covered.ensures.covered ds are alg c.in-Ok.ensures.alg in
    fits_run t ds chains p c.args.run.now c.run_past.result alg c.in-Ok.fit.moment c.in-Ok-found_of.found
    c.args.terms.now.whole c.covered_at-covered.result h f refl due
    (λ none. found_by c.args.terms.now (g.V.Verifier.vouches c.args.verifier.now)
    (g.V.Verifier.vouches c.fit_of.new.verifier) p alg c.in-Ok.fit.moment c.args.run.now.lapsed
    c.in-Ok-found_of.found c.fit_of.ensures.same c.in-Ok-found_of.ensures.judged ds f none) c.run_past.ensures.alg
    c.run_past.ensures.before
    c.run_past.ensures.lapsed c.run_past.ensures.begun c.run_past.ensures.some

-- ---- what is asked

-- first about its token
asks_first : (g : Over) (c : After-fit_of g) (chains : List (List StampValue)) (ds : List (List ℕ))
    → AreOfData c.args.digests.now ds → IsRunAt (grounds g c) ds chains c.args.place.now c.args.run.now
    → AsksOnly (λ test. g.V.Verifier.asked_only test c.args.verifier.now c.fit_of.new.verifier)
    (IsAskedAt (grounds g c) ds chains c.args.place.now)
asks_first g c chains ds are h =
    fit_asks (grounds g c) ds c.args.place.now c.stamp.result.now c.stamp.ensures _ (around_it g c chains ds are h)
    c.args.checker.now (g.V.Verifier.vouches c.args.verifier.now) (by_grounds g c) chains c.args.run.now h
    (λ test. g.V.Verifier.asked_only test c.args.verifier.now c.fit_of.new.verifier) c.fit_of.ensures.only

-- and then, if it fits, whether it lasts
asks_then : (g : Over) (c : After-found_of g) (chains : List (List StampValue))
    (ds : List (List ℕ))
    → IsRunAt (grounds_of c.args.terms.now (g.V.Verifier.vouches c.args.verifier.now)) ds chains c.args.place.now
    c.args.run.now
    → FitsIn (grounds_of c.args.terms.now (g.V.Verifier.vouches c.args.verifier.now)) ds c.args.place.now
    c.in-Ok.fit.alg c.in-Ok.fit.moment
    → AsksOnly (λ test. g.V.Verifier.asked_only test c.fit_of.new.verifier c.found_of.new.verifier)
    (IsAskedAt (grounds_of c.args.terms.now (g.V.Verifier.vouches c.args.verifier.now)) ds chains c.args.place.now)
asks_then g c chains ds h f =
    last_asks c.args.terms.now (g.V.Verifier.vouches c.args.verifier.now)
    (g.V.Verifier.vouches c.fit_of.new.verifier) c.args.place.now c.args.run.now c.in-Ok.fit.alg
    c.in-Ok.fit.moment (λ test. g.V.Verifier.asked_only test c.fit_of.new.verifier c.found_of.new.verifier)
    c.fit_of.ensures.same c.found_of.ensures.only chains ds h f

pub returns-in-Err-clause-only : goal.returns-in-Err-clause-only
returns-in-Err-clause-only g c = asks_first g (goal.at.returns-in-Err-clause-only g c).After-fit_of

pub returns-in-Err-found_of-clause-only : goal.returns-in-Err-found_of-clause-only
returns-in-Err-found_of-clause-only g c = λ chains ds are h test tests.
    let at = goal.at.returns-in-Err-found_of-clause-only g c in
    let f = c.in-Ok.ensures.judged (grounds g at.After-fit_of) ds c.args.place.now (sym c.stamp.ensures)
    (by_grounds g at.After-fit_of) (around_it g at.After-fit_of chains ds are h) in
    g.V.Verifier.asked_further test _ _ _ (asks_first g at.After-fit_of chains ds are h test tests)
    (asks_then g at.After-found_of chains ds h f test tests)

pub returns-clause-only : goal.returns-clause-only
returns-clause-only g c = λ chains ds are h test tests.
    let at = goal.at.returns-clause-only g c in
    let f = c.in-Ok.ensures.judged (grounds g at.After-fit_of) ds c.args.place.now (sym c.stamp.ensures)
    (by_grounds g at.After-fit_of) (around_it g at.After-fit_of chains ds are h) in
    g.V.Verifier.asked_further test _ _ _ (asks_first g at.After-fit_of chains ds are h test tests)
    (asks_then g at.After-found_of chains ds h f test tests)
