use Rattle.std.proofs.Common.{length}
use Rattle.library_records.proofs.Trees.{DigestsUntil}
use Rattle.library_records.proofs.tree.digests_in.Given as goal

-- the digests so far, and the octets that are left, are all
abbrev pub invariant-loop-left : goal.invariant-loop-left
invariant-loop-left l = DigestsUntil l.alg l.octets l.left l.digests.items

abbrev pub decreases-loop-left : goal.decreases-loop-left
decreases-loop-left l = length l.left
