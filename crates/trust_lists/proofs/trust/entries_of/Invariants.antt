use Rattle.std.proofs.Common.{length}
use Rattle.trust_lists.specs.TrustText.{Answer, BeginsWell, behind, IsOfLines}
use Rattle.trust_lists.proofs.trust.entries_of.Given as goal

-- an answer about the lines that are left, behind the entries so far, is one about all; if those that are left begin
-- well, all do
abbrev pub invariant-loop-line : goal.invariant-loop-line
invariant-loop-line l = record {
  goes : (rest : Answer) → IsOfLines l.version l.left rest
      → IsOfLines l.version l.initial.left (behind l.entries.items rest);
  begins : BeginsWell l.version l.left → BeginsWell l.version l.initial.left;
}

abbrev pub decreases-loop-line : goal.decreases-loop-line
decreases-loop-line l = length l.left
