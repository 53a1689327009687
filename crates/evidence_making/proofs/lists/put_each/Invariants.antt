use Rattle.std.proofs.Common.{◌≡◌, ◌≤◌, ◌++◌, length}
use Rattle.evidence_making.specs.Frames.{each_inside}
use Rattle.evidence_making.proofs.lists.put_each.Given as goal

-- what is put so far and what is left make up all
abbrev pub invariant-loop-value : goal.invariant-loop-value
invariant-loop-value l = (l.out.items ++ each_inside l.left ≡ l.fn.out.items ++ each_inside l.values)
    × (length (each_inside l.left) ≤ length (each_inside l.values))

abbrev pub decreases-loop-value : goal.decreases-loop-value
decreases-loop-value l = length l.left
