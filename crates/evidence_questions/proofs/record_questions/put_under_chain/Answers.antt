use Rattle.std.proofs.Common.{Ok, Err}
use Rattle.std.proofs.lemmas.Result.{err_from_is_err_and}
use Rattle.devices.proofs.Putting.{puts_to}
use Rattle.check_questions.specs.FileQuestions.{InOrder}
use Rattle.check_questions.proofs.Lines.{first_part, next_of, next_put, last_put}
use Rattle.evidence_questions.specs.RecordQuestions.{OfStamp}
use Rattle.evidence_questions.proofs.Chains.{of_its_token}
use Rattle.evidence_questions.proofs.record_questions.put_under_chain.Goals as goal

pub returns-in_err-put_under_token-clause-wrote : goal.returns-in_err-put_under_token-clause-wrote
returns-in_err-put_under_token-clause-wrote g c =
    let p = err_from_is_err_and c.from_residual.result c.from_residual.ensures.1 in
    let Has = OfStamp c.args.trust.now in
    rw p.1 (c.loop-first.invariant.goes (Err p.0) (g.S.Sink.taken c.put_under_token.new.sink)
    (g.S.Sink.failures c.put_under_token.new.sink)
    (λ qs are. first_part (Has c.in-Some.first) (InOrder Has c.in-Some.others) p.0
    (g.S.Sink.tells c.loop-first.sink) (g.S.Sink.taken c.loop-first.sink) (g.S.Sink.taken c.put_under_token.new.sink)
    (g.S.Sink.failures c.loop-first.sink) (g.S.Sink.failures c.put_under_token.new.sink)
    (of_its_token c.args.trust.now c.in-Some.first c.stamp.result.now (Err p.0) (g.S.Sink.tells c.loop-first.sink)
    (g.S.Sink.taken c.loop-first.sink) (g.S.Sink.taken c.put_under_token.new.sink)
    (g.S.Sink.failures c.loop-first.sink) (g.S.Sink.failures c.put_under_token.new.sink) c.stamp.ensures
    c.in_err-put_under_token.ensures.wrote) qs
    (next_of Has c.loop-first.left c.in-Some.first c.in-Some.others c.in-Some.ensures qs are)))

pub loop-first-preserved : goal.loop-first-preserved
loop-first-preserved g c = record {
  goes = λ r t n w. c.loop-first.invariant.goes r t n
      (next_put (OfStamp c.args.trust.now)
      (puts_to g.S.Sink.tells g.S.Sink.taken g.S.Sink.failures c.loop-first.sink c.put_under_token.new.sink
      c.put_under_token.ensures.telling
      (record { taken = t; failures = n }) r)
      c.loop-first.left c.in-Some.first c.in-Some.others c.in-Some.ensures
      (of_its_token c.args.trust.now c.in-Some.first c.stamp.result.now (Ok tt) (g.S.Sink.tells c.loop-first.sink)
      (g.S.Sink.taken c.loop-first.sink) (g.S.Sink.taken c.put_under_token.new.sink)
      (g.S.Sink.failures c.loop-first.sink) (g.S.Sink.failures c.put_under_token.new.sink) c.stamp.ensures
      c.in_ok-put_under_token.ensures.wrote) w);
  telling = λ t. c.put_under_token.ensures.telling (c.loop-first.invariant.telling t);
}

pub returns-clause-wrote : goal.returns-clause-wrote
returns-clause-wrote g c =
    c.loop-first.invariant.goes (Ok tt) (g.S.Sink.taken c.loop-first.sink) (g.S.Sink.failures c.loop-first.sink)
    (last_put (OfStamp c.args.trust.now) tt (g.S.Sink.tells c.loop-first.sink) (g.S.Sink.taken c.loop-first.sink)
    (g.S.Sink.failures c.loop-first.sink) c.loop-first.left c.in_default.ensures)
