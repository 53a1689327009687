use Rattle.std.proofs.Common.{◌≡◌, ℕ, ◌+◌, List, true, length, Option}
use Rattle.digests.specs.declared.algorithm.Alg.{Alg}
use Rattle.digests.specs.Sets.{is_in}
use Rattle.digests.specs.Selection.{AreOfWanted, set_given}
use Rattle.check_fit.specs.declared.rules.SignerRule.{SignerRule}
use Rattle.check_fit.specs.Fitting.{WantedBy, Judged}
use Rattle.check_fit.proofs.every_signer.first_unfit.Given as goal

-- the result for the signers that are left is the result for all
abbrev pub invariant-loop-signer : goal.invariant-loop-signer
invariant-loop-signer l = record {
  counted : l.number + length l.left ≡ l.count;
  wanted : (alg : Alg) → WantedBy l.fn.policy l.left alg → WantedBy l.fn.policy l.fn.signers alg;
  judged : (content : List ℕ) → AreOfWanted l.fn.digests content
      → ((alg : Alg) → WantedBy l.fn.policy l.fn.signers alg → is_in alg (set_given l.fn.digests) ≡ true)
      → (unfit : Option (ℕ × SignerRule)) → Judged l.fn.policy content l.fn.econtent_type (l.number + 1) l.left unfit
      → Judged l.fn.policy content l.fn.econtent_type 1 l.fn.signers unfit;
}

abbrev pub decreases-loop-signer : goal.decreases-loop-signer
decreases-loop-signer l = length l.left
