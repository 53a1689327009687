use Rattle.std.proofs.Common.{ℕ, List, length, Result}
use Rattle.hex.specs.Hex.{encode_lower}
use Rattle.devices.specs.Device.{Wrote}
use Rattle.devices.specs.declared.sink.SinkFault.{SinkFault}
use Rattle.list_answers.proofs.written.put_digits.Given as goal

-- what is put of the octets that are left follows what was put
abbrev pub invariant-loop-first : goal.invariant-loop-first
invariant-loop-first g l = record {
  goes : (r : Result (Unit {0}) SinkFault) (t : List ℕ) (c : ℕ)
      → Wrote r (g.S.Sink.tells l.sink) (g.S.Sink.taken l.sink) t (g.S.Sink.failures l.sink) c (encode_lower l.left)
      → Wrote r (g.S.Sink.tells l.fn.sink) (g.S.Sink.taken l.fn.sink) t (g.S.Sink.failures l.fn.sink) c
      (encode_lower l.octets);
  telling : g.S.Sink.tells l.fn.sink → g.S.Sink.tells l.sink;
}

abbrev pub decreases-loop-first : goal.decreases-loop-first
decreases-loop-first g l = length l.left
