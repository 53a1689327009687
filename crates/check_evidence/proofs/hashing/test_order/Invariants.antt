use Rattle.std.proofs.Common.{◌≡◌, length}
use Rattle.check_evidence.specs.Joining.{ascends, ascends_after}
use Rattle.check_evidence.proofs.hashing.test_order.Given as goal

-- all stand in ascending order exactly where those that are left do after the last
abbrev pub invariant-loop-value : goal.invariant-loop-value
invariant-loop-value l = ascends l.values ≡ ascends_after l.last l.left

abbrev pub decreases-loop-value : goal.decreases-loop-value
decreases-loop-value l = length l.left
