use Rattle.std.proofs.Common.{ℕ, List, Ok, Err, sym, ◌∙◌}
use Rattle.check_verdict.specs.Asks.{AsksOnly}
use Rattle.check_evidence.specs.Grounds.{Grounds}
use Rattle.judge_evidence.specs.Asking.{IsAskedOfChains}
use Rattle.judge_evidence.specs.Data.{AreOfData}
use Rattle.judge_evidence.specs.Terms.{grounds_of}
use Rattle.judge_evidence.proofs.Judging.{refused_there, next_state}
use Rattle.judge_evidence.proofs.Asked.{place_asks}
use Rattle.judge_evidence.proofs.Loops.{judged_by}
use Rattle.judge_evidence.proofs.Running.{next_run, last_run}
use Rattle.judge_evidence.proofs.walk.judge_chains.Given.{Over}
use Rattle.judge_evidence.proofs.walk.judge_chains.Goals.{After-judge_at}
use Rattle.judge_evidence.proofs.walk.judge_chains.Goals as goal

-- the verifier is asked about the places before and this one
asks : (g : Over) (c : After-judge_at g) → (ds : List (List ℕ)) → AreOfData c.args.digests.now ds
    → AsksOnly (λ test. g.V.Verifier.asked_only test c.args.verifier.now c.judge_at.new.verifier)
    (IsAskedOfChains (grounds_of c.args.terms.now (g.V.Verifier.vouches c.args.verifier.now)) ds c.args.chains.now)
asks g c ds are test tests = g.V.Verifier.asked_further test _ _ _ (c.loop-run.invariant.only ds are test tests)
    (place_asks c.args.terms.now (g.V.Verifier.vouches c.args.verifier.now)
    (g.V.Verifier.vouches c.loop-run.verifier) c.args.digests.now c.args.chains.now c.loop-run.place c.loop-run.run
    (λ test. g.V.Verifier.asked_only test c.loop-run.verifier c.judge_at.new.verifier) c.loop-run.invariant.same
    c.loop-run.invariant.there c.judge_at.ensures.only ds are (c.loop-run.invariant.runs ds are) test tests)

pub judge_at-requires-clause-wanted : goal.judge_at-requires-clause-wanted
judge_at-requires-clause-wanted g c = λ first alg its. c.requires.wanted alg (record {
  place = c.loop-run.place;
  there = c.loop-run.invariant.there;
  first = first;
  its = its;
})

pub returns-in-Err-clause-judged : goal.returns-in-Err-clause-judged
returns-in-Err-clause-judged g c = λ ds are.
    let t : Grounds = grounds_of c.args.terms.now (g.V.Verifier.vouches c.args.verifier.now) in
    let p = c.loop-run.place in
    refused_there t ds c.args.chains.now p c.in-Err.refused
    (judged_by c.args.terms.now (g.V.Verifier.vouches c.args.verifier.now)
    (g.V.Verifier.vouches c.loop-run.verifier) c.args.digests.now p c.loop-run.run
    (Err c.in-Err.refused) c.loop-run.invariant.same
    c.in-Err.ensures.judged c.args.chains.now ds are (c.loop-run.invariant.runs ds are))

pub loop-run-preserved : goal.loop-run-preserved
loop-run-preserved g c =
    let t : Grounds = grounds_of c.args.terms.now (g.V.Verifier.vouches c.args.verifier.now) in
    let p = c.loop-run.place in
    let q = c.in-Some.next in
    record {
      there = c.loop-run.invariant.there ∙ sym c.in-Some.ensures.goes_on.same;
      state = next_state p q c.look_ahead-ahead.result.1 c.look_ahead-ahead.result.0 c.in-Some.ensures.next
          c.look_ahead-ahead.ensures;
      runs = λ ds are. next_run t ds c.args.chains.now p q c.in-Ok.run' c.in-Some.ensures.next
          (judged_by c.args.terms.now (g.V.Verifier.vouches c.args.verifier.now)
          (g.V.Verifier.vouches c.loop-run.verifier) c.args.digests.now p c.loop-run.run
          (Ok c.in-Ok.run') c.loop-run.invariant.same
          c.in-Ok.ensures.judged c.args.chains.now ds are (c.loop-run.invariant.runs ds are));
      only = asks g (goal.at.loop-run-preserved g c).After-judge_at;
      goes = c.judge_at.ensures.stays ∙ c.loop-run.invariant.goes;
      same = c.judge_at.ensures.same ∙ c.loop-run.invariant.same;
      counted = c.in-Ok.ensures.count ∙ c.loop-run.invariant.counted;
    }

pub returns-in-None-clause-judged : goal.returns-in-None-clause-judged
returns-in-None-clause-judged g c = λ ds are.
    let t : Grounds = grounds_of c.args.terms.now (g.V.Verifier.vouches c.args.verifier.now) in
    let p = c.loop-run.place in
    c.verdict_of.ensures.judged t c.args.chains.now ds (last_run t ds c.args.chains.now p c.in-Ok.run'
    c.in-None.ensures.next (judged_by c.args.terms.now (g.V.Verifier.vouches c.args.verifier.now)
    (g.V.Verifier.vouches c.loop-run.verifier) c.args.digests.now p c.loop-run.run
    (Ok c.in-Ok.run') c.loop-run.invariant.same
    c.in-Ok.ensures.judged c.args.chains.now ds are (c.loop-run.invariant.runs ds are)))

pub returns-in-Err-clause-only : goal.returns-in-Err-clause-only
returns-in-Err-clause-only g c = asks g (goal.at.returns-in-Err-clause-only g c).After-judge_at

pub returns-in-None-clause-only : goal.returns-in-None-clause-only
returns-in-None-clause-only g c = asks g (goal.at.returns-in-None-clause-only g c).After-judge_at
