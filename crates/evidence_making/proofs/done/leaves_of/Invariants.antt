use Rattle.std.proofs.Common.{◌≡◌, ◌∷◌, ◌++◌, List, length}
use Rattle.std.specs.List.{AllZip}
use Rattle.digests.specs.declared.value.Digest.{Digest}
use Rattle.evidence_making.specs.DoneSteps.{IsForIt}
use Rattle.evidence_making.proofs.done.leaves_of.Given as goal

-- of the digests before those that are left there is a leaf each, behind the first
abbrev pub invariant-loop-digest : goal.invariant-loop-digest
invariant-loop-digest l = (past : List Digest) × (rest : List Digest) × (l.others ≡ past ++ l.left)
    × (l.leaves.items ≡ l.fn.first ∷ rest) × AllZip (IsForIt l.octets l.token) past rest

abbrev pub decreases-loop-digest : goal.decreases-loop-digest
decreases-loop-digest l = length l.left
