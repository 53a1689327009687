use Rattle.std.proofs.Common.{◌≡◌, ◌+◌, ◌<◌, ◌^◌, length}
use Rattle.evidence_making.specs.Frames.{each_inside}
use Rattle.evidence_making.proofs.lists.lists_length.Given as goal

-- what is counted so far and what is left make up all
abbrev pub invariant-loop-value : goal.invariant-loop-value
invariant-loop-value l = (l.size + length (each_inside l.left) ≡ length (each_inside l.values)) × (l.size < 2 ^ 34)

abbrev pub decreases-loop-value : goal.decreases-loop-value
decreases-loop-value l = length l.left
