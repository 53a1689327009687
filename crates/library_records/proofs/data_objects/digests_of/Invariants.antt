use Rattle.std.proofs.Common.{length}
use Rattle.library_records.proofs.DataObjects.{DigestsSoFar}
use Rattle.library_records.proofs.data_objects.digests_of.Given as goal

-- the digests so far, and those of the parts that are left
abbrev pub invariant-loop-length : goal.invariant-loop-length
invariant-loop-length l = DigestsSoFar l.wanted l.lengths l.joined l.left l.octets l.digests.items

abbrev pub decreases-loop-length : goal.decreases-loop-length
decreases-loop-length l = length l.left
