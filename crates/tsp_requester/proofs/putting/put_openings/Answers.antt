use Rattle.std.proofs.Common.{◌+◌, drop, Ok, Err, arith}
use Rattle.std.proofs.lemmas.Result.{err_from_is_err_and}
use Rattle.devices.proofs.Putting.{puts_to, wrote_both, wrote_first}
use Rattle.tsp_requester.specs.Pieces.{opening_octets, openings_octets}
use Rattle.tsp_requester.proofs.Puts.{openings_are, openings_end}
use Rattle.tsp_requester.proofs.putting.put_openings.Goals as goal

pub returns-in_err-put_opening-clause-wrote : goal.returns-in_err-put_opening-clause-wrote
returns-in_err-put_opening-clause-wrote g c =
    let p = err_from_is_err_and c.from_residual.result c.from_residual.ensures.1 in
    rw p.1 (c.loop-opening.invariant.goes (Err p.0) (g.S.Sink.taken c.put_opening.new.out)
    (g.S.Sink.failures c.put_opening.new.out)
    (wrote_first p.0
    (g.S.Sink.tells c.loop-opening.out) (g.S.Sink.taken c.loop-opening.out) (g.S.Sink.taken c.put_opening.new.out)
    (g.S.Sink.failures c.loop-opening.out) (g.S.Sink.failures c.put_opening.new.out)
    (openings_octets (drop c.loop-opening.opening-index c.args.openings.now)) (opening_octets c.opening-item.result)
    (openings_octets (drop (c.loop-opening.opening-index + 1) c.args.openings.now))
    (openings_are c.args.openings.now c.loop-opening.opening-index c.opening-item.result c.loop-opening-test.true
    c.opening-item.is)
    c.in_err-put_opening.ensures.wrote))

pub loop-opening-preserved : goal.loop-opening-preserved
loop-opening-preserved g c = record {
  goes = λ r t n p. c.loop-opening.invariant.goes r t n
      (wrote_both (puts_to g.S.Sink.tells g.S.Sink.taken g.S.Sink.failures c.loop-opening.out c.put_opening.new.out
      c.put_opening.ensures.telling
      (record { taken = t; failures = n }) r)
      (openings_octets (drop c.loop-opening.opening-index c.args.openings.now)) (opening_octets c.opening-item.result)
      (openings_octets (drop (c.loop-opening.opening-index + 1) c.args.openings.now))
      (openings_are c.args.openings.now c.loop-opening.opening-index c.opening-item.result c.loop-opening-test.true
      c.opening-item.is)
      c.in_ok-put_opening.ensures.wrote p);
  telling = λ t. c.put_opening.ensures.telling (c.loop-opening.invariant.telling t);
}

pub returns-clause-wrote : goal.returns-clause-wrote
returns-clause-wrote g c =
    c.loop-opening.invariant.goes (Ok tt) (g.S.Sink.taken c.loop-opening.out) (g.S.Sink.failures c.loop-opening.out)
    (openings_end tt (g.S.Sink.tells c.loop-opening.out) (g.S.Sink.taken c.loop-opening.out)
    (g.S.Sink.failures c.loop-opening.out) c.args.openings.now c.loop-opening.opening-index
    (omega (arith, c.loop-opening-test.false)))
