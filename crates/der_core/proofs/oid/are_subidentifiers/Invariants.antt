use Rattle.std.proofs.Common.{◌≡◌, true, length}
use Rattle.der_core.specs.Contents.{are_subidentifiers}
use Rattle.der_core.proofs.oid.are_subidentifiers.Given as goal

-- the octets that are left are subidentifiers, the first of them begun or not, exactly when all the octets are
abbrev pub invariant-loop-left : goal.invariant-loop-left
invariant-loop-left l = are_subidentifiers l.begins l.left ≡ are_subidentifiers true l.body

abbrev pub decreases-loop-left : goal.decreases-loop-left
decreases-loop-left l = length l.left
