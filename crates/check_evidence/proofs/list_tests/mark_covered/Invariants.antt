use Rattle.std.proofs.Common.{ℕ, List}
use Rattle.check_evidence.specs.CoveredValues.{AreValues, AreGiven, how_many}
use Rattle.check_evidence.specs.ListTests.{AreMarked}
use Rattle.check_evidence.proofs.Marking.{StaysWithin}
use Rattle.check_evidence.proofs.list_tests.mark_covered.Given as goal

-- those that are left are among all, and what has a mark is among all
abbrev pub invariant-loop-value : goal.invariant-loop-value
invariant-loop-value l = record {
  given : AreGiven l.alg l.left;
  stays : StaysWithin l.alg l.covered l.left;
  marked : (due : List (List ℕ)) → AreValues l.alg l.covered due → AreMarked due l.values l.initial.marks
      → AreMarked due l.values l.marks;
}

abbrev pub decreases-loop-value : goal.decreases-loop-value
decreases-loop-value l = how_many l.left
