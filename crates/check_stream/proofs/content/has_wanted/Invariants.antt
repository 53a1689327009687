use Rattle.std.proofs.Common.{◌≡◌, true, length}
use Rattle.std.specs.Prelude.{◌⊎◌}
use Rattle.digests.specs.declared.algorithm.Alg.{Alg}
use Rattle.digests.specs.Sets.{is_in}
use Rattle.digests.specs.Selection.{set_given}
use Rattle.check_fit.specs.Fitting.{WantedBy}
use Rattle.check_stream.proofs.content.has_wanted.Given as goal

-- what one of the signers that are left wants one of all wants; and what one of all wants has a digest, or one that is
-- left wants it
abbrev pub invariant-loop-signer : goal.invariant-loop-signer
invariant-loop-signer l = record {
  left : (alg : Alg) → WantedBy l.fn.policy l.left alg → WantedBy l.fn.policy l.fn.signers alg;
  made : (alg : Alg) → WantedBy l.fn.policy l.fn.signers alg
      → (is_in alg (set_given l.fn.digests) ≡ true) ⊎ WantedBy l.fn.policy l.left alg;
}

abbrev pub decreases-loop-signer : goal.decreases-loop-signer
decreases-loop-signer l = length l.left
