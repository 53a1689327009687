use Rattle.std.proofs.Common.{◌≡◌, ◌++◌, map, length}
use Rattle.cli_making.proofs.sums.digests_of.Given as goal

-- the digests so far, and those of the lines that are left, are all
abbrev pub invariant-loop-sum : goal.invariant-loop-sum
invariant-loop-sum l = l.digests.items ++ map (λ s. s.digest) l.left ≡ map (λ s. s.digest) l.sums

abbrev pub decreases-loop-sum : goal.decreases-loop-sum
decreases-loop-sum l = length l.left
