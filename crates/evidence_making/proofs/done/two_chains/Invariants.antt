use Rattle.std.proofs.Common.{◌≡◌, ◌∷◌, ◌++◌, List, length}
use Rattle.evidence_types.specs.StampValue.{StampValue}
use Rattle.evidence_making.proofs.done.two_chains.Given as goal

-- the last two of those so far stand before those that are left
abbrev pub invariant-loop-chain : goal.invariant-loop-chain
invariant-loop-chain l = (front : List (List StampValue)) × (l.chains ≡ front ++ l.before ∷ l.last ∷ l.left)

abbrev pub decreases-loop-chain : goal.decreases-loop-chain
decreases-loop-chain l = length l.left
