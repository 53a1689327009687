use Rattle.std.proofs.Common.{◌≡◌, length}
use Rattle.std.specs.List.{list_all}
use Rattle.check_evidence.specs.ListTests.{are_long}
use Rattle.check_evidence.proofs.list_tests.are_all_long.Given as goal

-- all have as many octets exactly if those of the lists that are left do
abbrev pub invariant-loop-values : goal.invariant-loop-values
invariant-loop-values l = list_all (are_long l.count) l.lists ≡ list_all (are_long l.count) l.left

abbrev pub decreases-loop-values : goal.decreases-loop-values
decreases-loop-values l = length l.left
