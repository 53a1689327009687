use Rattle.std.proofs.Common.{Ok, Err}
use Rattle.std.proofs.lemmas.Result.{err_from_is_err_and}
use Rattle.hex.specs.Hex.{encode_lower}
use Rattle.devices.proofs.Putting.{puts_to, wrote_both, wrote_first}
use Rattle.list_answers.proofs.Puts.{digits_are, digits_end, emptied}
use Rattle.list_answers.proofs.written.put_digits.Goals as goal

pub returns-in_err-put_pair-clause-wrote : goal.returns-in_err-put_pair-clause-wrote
returns-in_err-put_pair-clause-wrote g c =
    let p = err_from_is_err_and c.from_residual.result c.from_residual.ensures.1 in
    rw p.1 (c.loop-first.invariant.goes (Err p.0) (g.S.Sink.taken c.put_pair.new.sink)
    (g.S.Sink.failures c.put_pair.new.sink)
    (wrote_first p.0 (g.S.Sink.tells c.loop-first.sink) (g.S.Sink.taken c.loop-first.sink)
    (g.S.Sink.taken c.put_pair.new.sink)
    (g.S.Sink.failures c.loop-first.sink) (g.S.Sink.failures c.put_pair.new.sink)
    (encode_lower c.loop-first.left.now) c.digits_of.result (encode_lower c.in-Some.others.now)
    (digits_are c.loop-first.left.now c.in-Some.first.now c.in-Some.others.now c.digits_of.result
    c.in-Some.ensures.cases.0 c.digits_of.ensures)
    c.in_err-put_pair.ensures.wrote))

pub loop-first-preserved : goal.loop-first-preserved
loop-first-preserved g c = record {
  goes = λ r t n w. c.loop-first.invariant.goes r t n
      (wrote_both (puts_to g.S.Sink.tells g.S.Sink.taken g.S.Sink.failures c.loop-first.sink c.put_pair.new.sink
      c.put_pair.ensures.telling (record { taken = t; failures = n }) r)
      (encode_lower c.loop-first.left.now) c.digits_of.result (encode_lower c.in-Some.others.now)
      (digits_are c.loop-first.left.now c.in-Some.first.now c.in-Some.others.now c.digits_of.result
      c.in-Some.ensures.cases.0 c.digits_of.ensures)
      c.in_ok-put_pair.ensures.wrote w);
  telling = λ t. c.put_pair.ensures.telling (c.loop-first.invariant.telling t);
}

pub returns-clause-wrote : goal.returns-clause-wrote
returns-clause-wrote g c =
    c.loop-first.invariant.goes (Ok tt) (g.S.Sink.taken c.loop-first.sink) (g.S.Sink.failures c.loop-first.sink)
    (digits_end tt (g.S.Sink.tells c.loop-first.sink) (g.S.Sink.taken c.loop-first.sink)
    (g.S.Sink.failures c.loop-first.sink) c.loop-first.left.now
    (emptied c.loop-first.left.now c.in_default.ensures.cases))
