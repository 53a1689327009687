use Rattle.std.proofs.Common.{ℕ, List, drop, Result}
use Rattle.devices.specs.Device.{Wrote}
use Rattle.devices.specs.declared.sink.SinkFault.{SinkFault}
use Rattle.tsp_requester.specs.Pieces.{openings_octets}
use Rattle.tsp_requester.proofs.putting.put_openings.Given as goal

-- what is put of the beginnings that are left follows what was put
abbrev pub invariant-loop-opening : goal.invariant-loop-opening
invariant-loop-opening g l = record {
  goes : (r : Result (Unit {0}) SinkFault) (t : List ℕ) (c : ℕ)
      → Wrote r (g.S.Sink.tells l.out) (g.S.Sink.taken l.out) t (g.S.Sink.failures l.out) c
      (openings_octets (drop l.opening-index l.openings))
      → Wrote r (g.S.Sink.tells l.initial.out) (g.S.Sink.taken l.initial.out) t (g.S.Sink.failures l.initial.out) c
      (openings_octets l.openings);
  telling : g.S.Sink.tells l.initial.out → g.S.Sink.tells l.out;
}
