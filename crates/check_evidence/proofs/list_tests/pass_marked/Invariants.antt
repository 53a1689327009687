use Rattle.std.proofs.Common.{◌≡◌, ℕ, List, drop}
use Rattle.std.specs.List.{list_all}
use Rattle.check_evidence.specs.CoveredValues.{AreValues}
use Rattle.check_evidence.specs.ListTests.{is_among, IsSearchable}
use Rattle.check_evidence.proofs.list_tests.pass_marked.Given as goal

-- those that are left stand behind the marks that were passed, and all must be covered exactly if they must
abbrev pub invariant-loop-marked : goal.invariant-loop-marked
invariant-loop-marked l = record {
  behind : l.left ≡ drop l.marked-index l.values;
  searchable : IsSearchable l.size l.left;
  passed : (due : List (List ℕ)) → AreValues l.alg l.covered due
      → list_all (is_among due) l.values ≡ list_all (is_among due) l.left;
}
