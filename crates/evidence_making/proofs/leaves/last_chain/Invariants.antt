use Rattle.std.proofs.Common.{◌≡◌, length, Some, None}
use Rattle.std.specs.List.{last_or}
use Rattle.evidence_making.proofs.leaves.last_chain.Given as goal

-- the last of those that are left, or else the one before them, is the last of all
abbrev pub invariant-loop-chain : goal.invariant-loop-chain
invariant-loop-chain l = last_or None l.chains ≡ last_or (Some l.last) l.left

abbrev pub decreases-loop-chain : goal.decreases-loop-chain
decreases-loop-chain l = length l.left
