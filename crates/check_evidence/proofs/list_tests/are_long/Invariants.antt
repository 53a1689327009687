use Rattle.std.proofs.Common.{◌≡◌, length}
use Rattle.check_evidence.specs.ListTests.{are_long}
use Rattle.check_evidence.proofs.list_tests.are_long.Given as goal

-- all have as many octets exactly if those that are left do
abbrev pub invariant-loop-value : goal.invariant-loop-value
invariant-loop-value l = are_long l.count l.values ≡ are_long l.count l.left

abbrev pub decreases-loop-value : goal.decreases-loop-value
decreases-loop-value l = length l.left
