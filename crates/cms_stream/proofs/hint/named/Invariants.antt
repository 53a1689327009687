use Rattle.std.proofs.Common.{◌≡◌, true, length}
use Rattle.std.specs.Prelude.{◌⊎◌}
use Rattle.digests.specs.declared.algorithm.Alg.{Alg}
use Rattle.digests.specs.Sets.{is_in}
use Rattle.cms_stream.specs.Hints.{IsNamedBy}
use Rattle.cms_stream.proofs.hint.named.Given as goal

-- an algorithm in the set is named, and one that is named is in the set or named by one of the identifiers that are
-- left
abbrev pub invariant-loop-identifier : goal.invariant-loop-identifier
invariant-loop-identifier l = record {
  only : (alg : Alg) → is_in alg l.algorithms ≡ true → IsNamedBy l.fn.identifiers alg;
  left : (alg : Alg) → IsNamedBy l.left alg → IsNamedBy l.fn.identifiers alg;
  found : (alg : Alg) → IsNamedBy l.fn.identifiers alg → (is_in alg l.algorithms ≡ true) ⊎ IsNamedBy l.left alg;
}

abbrev pub decreases-loop-identifier : goal.decreases-loop-identifier
decreases-loop-identifier l = length l.left
