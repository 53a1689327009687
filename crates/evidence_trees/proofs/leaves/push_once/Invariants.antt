use Rattle.std.proofs.Common.{◌≡◌, ◌++◌, map, drop}
use Rattle.digests.specs.Digests.{octets_of}
use Rattle.evidence_trees.specs.Distinct.{once_after}
use Rattle.evidence_trees.proofs.leaves.push_once.Given as goal

-- the leaves so far, and what is left once, are what all is once
abbrev pub invariant-loop-digest : goal.invariant-loop-digest
invariant-loop-digest l = record {
  size : l.leaves.size ≡ l.initial.leaves.size;
  once : l.leaves.values ++ once_after l.last (map (λ d. octets_of d.now) (drop l.digest-index l.others))
      ≡ l.initial.leaves.values ++ once_after l.initial.last (map (λ d. octets_of d.now) l.others);
}
