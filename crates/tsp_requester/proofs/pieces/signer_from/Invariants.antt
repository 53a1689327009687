use Rattle.std.specs.Prelude.{◌≡◌, ◌-◌, ◌<◌, drop, length}
use Rattle.tsp_requester.proofs.pieces.signer_from.Given as goal

-- those that are left, after so many more, are those from that number on
abbrev pub invariant-loop-signer : goal.invariant-loop-signer
invariant-loop-signer l = (drop l.before l.left ≡ drop (l.fn.number - 1) l.fn.signers) × (0 < l.fn.number)

abbrev pub decreases-loop-signer : goal.decreases-loop-signer
decreases-loop-signer l = length l.left
