use Rattle.std.proofs.Common.{◌≡◌, true, length}
use Rattle.std.specs.Prelude.{◌⊎◌}
use Rattle.digests.specs.declared.algorithm.Alg.{Alg}
use Rattle.digests.specs.Sets.{is_in}
use Rattle.check_fit.specs.Fitting.{WantedBy}
use Rattle.check_fit.proofs.every_signer.wanted_by.Given as goal

-- an algorithm in the set is wanted, and one that is wanted is in the set or wanted by one of the signers that are left
abbrev pub invariant-loop-algorithm : goal.invariant-loop-algorithm
invariant-loop-algorithm l = record {
  only : (alg : Alg) → is_in alg l.wanted ≡ true → WantedBy l.fn.policy l.fn.signers alg;
  left : (alg : Alg) → WantedBy l.fn.policy l.left alg → WantedBy l.fn.policy l.fn.signers alg;
  found : (alg : Alg) → WantedBy l.fn.policy l.fn.signers alg
      → (is_in alg l.wanted ≡ true) ⊎ WantedBy l.fn.policy l.left alg;
}

abbrev pub decreases-loop-algorithm : goal.decreases-loop-algorithm
decreases-loop-algorithm l = length l.left
