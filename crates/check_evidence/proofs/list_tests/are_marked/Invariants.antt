use Rattle.std.proofs.Common.{◌≡◌, ℕ, List, length}
use Rattle.std.specs.List.{list_all}
use Rattle.check_evidence.specs.CoveredValues.{AreValues}
use Rattle.check_evidence.specs.ListTests.{is_among, IsSearchable}
use Rattle.check_evidence.proofs.list_tests.are_marked.Given as goal

-- all must be covered exactly if those that are left must
abbrev pub invariant-loop-left : goal.invariant-loop-left
invariant-loop-left l = record {
  searchable : IsSearchable l.size l.left;
  passed : (due : List (List ℕ)) → AreValues l.alg l.covered due
      → list_all (is_among due) l.values ≡ list_all (is_among due) l.left;
}

abbrev pub decreases-loop-left : goal.decreases-loop-left
decreases-loop-left l = length l.left
