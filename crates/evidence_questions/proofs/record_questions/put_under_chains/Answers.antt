use Rattle.std.proofs.Common.{Ok, Err}
use Rattle.std.proofs.lemmas.Result.{err_from_is_err_and}
use Rattle.devices.proofs.Putting.{puts_to}
use Rattle.check_evidence.specs.Places.{stamps_of}
use Rattle.check_questions.proofs.Lines.{first_part, two_put, last_put}
use Rattle.evidence_questions.specs.RecordQuestions.{OfStamp, OfStamps}
use Rattle.evidence_questions.proofs.Chains.{chains_parted, no_chains}
use Rattle.evidence_questions.proofs.record_questions.put_under_chains.Goals as goal

pub returns-in_err-put_under_chain-clause-wrote : goal.returns-in_err-put_under_chain-clause-wrote
returns-in_err-put_under_chain-clause-wrote g c =
    let p = err_from_is_err_and c.from_residual.result c.from_residual.ensures.1 in
    let trust = c.args.trust.now in
    rw p.1 (c.loop-first.invariant.goes (Err p.0) (g.S.Sink.taken c.put_under_chain.new.sink)
    (g.S.Sink.failures c.put_under_chain.new.sink)
    (λ qs are. first_part (OfStamps trust c.in-Some.first) (OfStamps trust (stamps_of c.in-Some.others)) p.0
    (g.S.Sink.tells c.loop-first.sink) (g.S.Sink.taken c.loop-first.sink) (g.S.Sink.taken c.put_under_chain.new.sink)
    (g.S.Sink.failures c.loop-first.sink) (g.S.Sink.failures c.put_under_chain.new.sink)
    c.in_err-put_under_chain.ensures.wrote qs
    (chains_parted trust c.loop-first.left c.in-Some.others c.in-Some.first c.in-Some.ensures qs are)))

pub loop-first-preserved : goal.loop-first-preserved
loop-first-preserved g c =
    let trust = c.args.trust.now in
    record {
      goes = λ r t n w. c.loop-first.invariant.goes r t n
          (λ qs are. two_put (OfStamps trust c.in-Some.first) (OfStamps trust (stamps_of c.in-Some.others))
          (puts_to g.S.Sink.tells g.S.Sink.taken g.S.Sink.failures c.loop-first.sink c.put_under_chain.new.sink
          c.put_under_chain.ensures.telling
          (record { taken = t; failures = n }) r)
          c.in_ok-put_under_chain.ensures.wrote w qs
          (chains_parted trust c.loop-first.left c.in-Some.others c.in-Some.first c.in-Some.ensures qs are));
      telling = λ t. c.put_under_chain.ensures.telling (c.loop-first.invariant.telling t);
    }

pub returns-clause-wrote : goal.returns-clause-wrote
returns-clause-wrote g c =
    c.loop-first.invariant.goes (Ok tt) (g.S.Sink.taken c.loop-first.sink) (g.S.Sink.failures c.loop-first.sink)
    (last_put (OfStamp c.args.trust.now) tt (g.S.Sink.tells c.loop-first.sink) (g.S.Sink.taken c.loop-first.sink)
    (g.S.Sink.failures c.loop-first.sink) (stamps_of c.loop-first.left)
    (no_chains c.loop-first.left c.in_default.ensures))
