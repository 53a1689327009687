use Rattle.std.proofs.Common.{◌≡◌, length, Some, None}
use Rattle.std.specs.List.{last_or}
use Rattle.evidence_making.proofs.leaves.last_in.Given as goal

-- the last of those that are left, or else the one before them, is the last of all
abbrev pub invariant-loop-stamp : goal.invariant-loop-stamp
invariant-loop-stamp l = last_or None l.chain ≡ last_or (Some l.last) l.left

abbrev pub decreases-loop-stamp : goal.decreases-loop-stamp
decreases-loop-stamp l = length l.left
