use Rattle.std.proofs.Common.{◌≡◌, ℕ, List, length}
use Rattle.std.specs.List.{list_all}
use Rattle.check_evidence.specs.CoveredValues.{AreValues}
use Rattle.check_evidence.specs.ListTests.{is_among}
use Rattle.check_evidence.proofs.list_tests.are_of.Given as goal

-- all must be covered exactly if those that are left must
abbrev pub invariant-loop-value : goal.invariant-loop-value
invariant-loop-value l = (due : List (List ℕ)) → AreValues l.alg l.covered due
    → list_all (is_among due) l.values ≡ list_all (is_among due) l.left

abbrev pub decreases-loop-value : goal.decreases-loop-value
decreases-loop-value l = length l.left
