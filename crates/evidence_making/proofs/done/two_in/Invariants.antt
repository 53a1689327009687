use Rattle.std.proofs.Common.{◌≡◌, ◌∷◌, ◌++◌, List, length}
use Rattle.evidence_types.specs.StampValue.{StampValue}
use Rattle.evidence_making.proofs.done.two_in.Given as goal

-- the last two of those so far stand before those that are left
abbrev pub invariant-loop-stamp : goal.invariant-loop-stamp
invariant-loop-stamp l = (front : List StampValue) × (l.chain ≡ front ++ l.before ∷ l.last ∷ l.left)

abbrev pub decreases-loop-stamp : goal.decreases-loop-stamp
decreases-loop-stamp l = length l.left
