use Rattle.std.proofs.Common.{Err}
use Rattle.std.proofs.lemmas.Result.{err_from_is_err_and}
use Rattle.devices.proofs.Putting.{puts_to}
use Rattle.trust_lists.proofs.EntryLines.{lines_next, lines_part}
use Rattle.trust_lists.proofs.written.put_entries.Goals as goal

pub returns-in_err-put_entry-clause-wrote : goal.returns-in_err-put_entry-clause-wrote
returns-in_err-put_entry-clause-wrote g c =
    let p = err_from_is_err_and c.from_residual.result c.from_residual.ensures.1 in
    rw p.1 (c.loop-first.invariant.goes (Err p.0) (g.S.Sink.taken c.put_entry.new.sink)
    (g.S.Sink.failures c.put_entry.new.sink)
    (lines_part p.0 (g.S.Sink.tells c.loop-first.sink) (g.S.Sink.taken c.loop-first.sink)
    (g.S.Sink.taken c.put_entry.new.sink)
    (g.S.Sink.failures c.loop-first.sink) (g.S.Sink.failures c.put_entry.new.sink)
    c.loop-first.left.now c.in-Some.first.now c.in-Some.others.now c.in-Some.ensures.cases.0
    c.in_err-put_entry.ensures.wrote))

pub loop-first-preserved : goal.loop-first-preserved
loop-first-preserved g c = record {
  goes = λ r t n p. c.loop-first.invariant.goes r t n
      (lines_next (puts_to g.S.Sink.tells g.S.Sink.taken g.S.Sink.failures c.loop-first.sink c.put_entry.new.sink
      c.put_entry.ensures.telling
      (record { taken = t; failures = n }) r)
      c.loop-first.left.now c.in-Some.first.now c.in-Some.others.now c.in-Some.ensures.cases.0
      c.in_ok-put_entry.ensures.wrote p);
  telling = λ t. c.put_entry.ensures.telling (c.loop-first.invariant.telling t);
}
