use Rattle.std.proofs.Common.{◌≡◌, map, take}
use Rattle.evidence_trees.proofs.leaves.references_to.Given as goal

abbrev pub invariant-loop-digest : goal.invariant-loop-digest
invariant-loop-digest l = map (λ d. d.now) l.references.items ≡ take l.digest-index l.digests
