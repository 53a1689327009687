use Rattle.std.proofs.Common.{◌≡◌, ◌++◌, List, length}
use Rattle.std.specs.List.{AllZip}
use Rattle.digests.specs.declared.value.Digest.{Digest}
use Rattle.evidence_types.specs.EvidenceValue.{chains_parts}
use Rattle.evidence_making.specs.LeafSteps.{IsNewLeafOf}
use Rattle.evidence_making.proofs.leaves.leaves_on.Given as goal

-- of the digests before those that are left there is a leaf each
abbrev pub invariant-loop-digest : goal.invariant-loop-digest
invariant-loop-digest l = (past : List Digest) × (l.digests ≡ past ++ l.left)
    × AllZip (IsNewLeafOf l.alg (chains_parts l.chains)) past l.leaves.items

abbrev pub decreases-loop-digest : goal.decreases-loop-digest
decreases-loop-digest l = length l.left
