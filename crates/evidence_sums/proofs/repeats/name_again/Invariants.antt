use Rattle.std.proofs.Common.{◌≡◌, ◌+◌, ◌≤◌, ℕ, List, [], true, length}
use Rattle.std.specs.List.{list_all}
use Rattle.evidence_sums.specs.LineTests.{is_line, named_again}
use Rattle.evidence_sums.specs.Lines.{lines_of}
use Rattle.evidence_sums.proofs.PassedNames.{Keeps}
use Rattle.evidence_sums.proofs.repeats.name_again.Given as goal

-- the set has the names that were passed, and the first that is there again is the first of those that are left
abbrev pub invariant-loop-left : goal.invariant-loop-left
invariant-loop-left l = record {
  numbered : l.number + length l.left ≤ length l.text + 1;
  formed : list_all (is_line l.may_continue l.alg) (lines_of l.left) ≡ true;
  same : (passed : List (List ℕ)) × Keeps passed l.names
      × (named_again l.may_continue l.alg passed l.number (lines_of l.left)
      ≡ named_again l.may_continue l.alg [] 1 (lines_of l.text));
}

abbrev pub decreases-loop-left : goal.decreases-loop-left
decreases-loop-left l = length l.left
