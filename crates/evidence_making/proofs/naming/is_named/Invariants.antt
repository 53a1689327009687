use Rattle.std.proofs.Common.{◌≡◌, length}
use Rattle.evidence_making.specs.Renewed.{is_named}
use Rattle.evidence_making.proofs.naming.is_named.Given as goal

-- none of those that are past names it
abbrev pub invariant-loop-algorithm : goal.invariant-loop-algorithm
invariant-loop-algorithm l = is_named l.alg l.left ≡ is_named l.alg l.algorithms

abbrev pub decreases-loop-algorithm : goal.decreases-loop-algorithm
decreases-loop-algorithm l = length l.left
