use Rattle.std.proofs.Common.{ℕ, List, length, Result}
use Rattle.devices.specs.declared.sink.SinkFault.{SinkFault}
use Rattle.check_evidence.specs.Places.{stamps_of}
use Rattle.check_questions.specs.AskingSteps.{PutsLines}
use Rattle.evidence_questions.specs.RecordQuestions.{OfStamps}
use Rattle.evidence_questions.proofs.record_questions.put_under_chains.Given as goal

-- what is put of those that are left follows what was put
abbrev pub invariant-loop-first : goal.invariant-loop-first
invariant-loop-first g l = record {
  goes : (r : Result (Unit {0}) SinkFault) (t : List ℕ) (c : ℕ)
      → PutsLines (OfStamps l.trust (stamps_of l.left)) r (g.S.Sink.tells l.sink) (g.S.Sink.taken l.sink) t
      (g.S.Sink.failures l.sink) c
      → PutsLines (OfStamps l.trust (stamps_of l.chains)) r (g.S.Sink.tells l.fn.sink)
      (g.S.Sink.taken l.fn.sink) t (g.S.Sink.failures l.fn.sink) c;
  telling : g.S.Sink.tells l.fn.sink → g.S.Sink.tells l.sink;
}

abbrev pub decreases-loop-first : goal.decreases-loop-first
decreases-loop-first g l = length l.left
