use Rattle.std.proofs.Common.{◌≡◌, ◌++◌, length}
use Rattle.check_evidence.proofs.sorting.fill.Given as goal

-- the index has the values that were passed
abbrev pub invariant-loop-value : goal.invariant-loop-value
invariant-loop-value l = l.values ≡ l.index.items ++ l.left

abbrev pub decreases-loop-value : goal.decreases-loop-value
decreases-loop-value l = length l.left
