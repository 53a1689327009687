use Rattle.std.proofs.Common.{◌≡◌, None, Bool, true, List, ℕ, ◌+◌, ◌++◌, length}
use Rattle.std.specs.Prelude.{Contains}
use Rattle.trust_lists.specs.Asking.{Asked}
use Rattle.check_verdict.specs.Asks.{IsAskedOf}
use Rattle.cms_types.specs.SignerValue.{SignerValue}
use Rattle.digests.specs.declared.algorithm.Alg.{Alg}
use Rattle.digests.specs.Sets.{is_in}
use Rattle.digests.specs.Selection.{set_given}
use Rattle.check_fit.specs.Fitting.{WantedBy}
use Rattle.check_fit.specs.FileFitting.{HasDigests}
use Rattle.check_verdict.specs.Passing.{Terms}
use Rattle.check_verdict.specs.Checkers.{terms_for}
use Rattle.check_verdict.proofs.Acceptance.{Passed}
use Rattle.check_verdict.proofs.Going.{GoesOn}
use Rattle.check_verdict.proofs.file.judge_signers.Given as goal

-- the signers before those that are left are good, each of their digests is at hand, this is their latest moment, and
-- the verifier answered each question
abbrev pub invariant-loop-signer : goal.invariant-loop-signer
invariant-loop-signer g l = record {
  before : List SignerValue;
  all : before ++ l.left ≡ l.signers;
  numbered : length before ≡ l.number;
  counted : l.number + length l.left ≡ l.count;
  first : l.number ≡ 0 → l.latest ≡ None;
  none : l.latest ≡ None → l.number ≡ 0;
  had : (alg : Alg) → WantedBy l.initial.checker.policy before alg → is_in alg (set_given l.digests) ≡ true;
  so_far : (t : Terms) → t ≡ terms_for l.initial.checker (g.V.Verifier.vouches l.initial.verifier) → (content : List ℕ)
      → HasDigests l.initial.checker.policy content l.signers l.digests
      → Passed t content l.econtent_type before l.latest;
  only : (t : Terms) → t ≡ terms_for l.initial.checker (g.V.Verifier.vouches l.initial.verifier) → (content : List ℕ)
      → HasDigests l.initial.checker.policy content l.signers l.digests
      → (test : Asked → Bool) → ((s : SignerValue) → Contains l.signers s → (q : Asked)
      → IsAskedOf t content l.econtent_type s q → test q ≡ true)
      → g.V.Verifier.asked_only test l.initial.verifier l.verifier;
  goes : GoesOn g.V.Verifier.vouches g.V.Verifier.failures l.initial.verifier l.verifier l.initial.checker l.checker;
}

abbrev pub decreases-loop-signer : goal.decreases-loop-signer
decreases-loop-signer g l = length l.left
