-- What is said of a request of a signature: of its values in their order, and then of the file.
use Rattle.std.proofs.Common.{◌≡◌, ◌⊎◌, ℕ, Bool, List, Result, Ok, Err, inl, inr}
use Rattle.std.specs.Prelude.{IfOk, IfErr, MatchResult}
use Rattle.digests.specs.declared.algorithm.Alg.{Alg}
use Rattle.digests.specs.declared.value.Digest.{Digest}
use Rattle.digests.specs.Algorithms.{name_of}
use Rattle.cli_failures.specs.declared.failure.Failure.{Failure}
use Rattle.cli_failures.specs.declared.failure.Failure.TheVariants as failure
use Rattle.cli_failures.specs.Signatures.{IsSignatureDigest, HasNoSigner}
use Rattle.library_answers.specs.declared.answer.Answer.{Answer}
use Rattle.library_answers.specs.Failures.{IsMade, IsUnmade}
use Rattle.library_calls.specs.Requests.{AreValues, RefusesPolicy, RefusesLength, RefusesSignature, IsRequestOf}
use Rattle.library_calls.specs.Requests.{IsRequestOfSignature, IsSignatureRequested}

module _ (name file : List ℕ) (number : ℕ) (policy nonce : List ℕ) (certificate : Bool) where
  module _ (alg : Alg) (named : name ≡ name_of alg) where
    pub policy_refused : (f : Failure) → (f ≡ failure.Memory) ⊎ RefusesPolicy policy f
        → RefusesSignature name file number policy nonce certificate f
    policy_refused f (inl memory) = inr (alg, named, inl memory)
    policy_refused f (inr refused) = inr (alg, named, inr (inl refused))

    module _ (are : AreValues policy nonce) where
      pub signer_refused : (f : Failure) → HasNoSigner file number f
          → RefusesSignature name file number policy nonce certificate f
      signer_refused f has = inr (alg, named, inr (inr (inr (are, inl has))))

      pub signature_too_long : {T : Type 0} (digest : Digest) (r : Result T Failure)
          → IsSignatureDigest alg file number digest
          → IfErr r (λ f. (f ≡ failure.Memory) ⊎ RefusesLength digest policy nonce certificate f)
          → IfErr r (RefusesSignature name file number policy nonce certificate)
      signature_too_long digest (Ok t) is long = tt
      signature_too_long digest (Err f) is (inl memory) = inr (alg, named, inl memory)
      signature_too_long digest (Err f) is (inr long) =
          inr (alg, named, inr (inr (inr (are, inr (digest, is, long)))))

    pub signature_asked : {T : Type 0} (bytes : T → List ℕ) (digest : Digest) (r : Result T Failure)
        → IsSignatureDigest alg file number digest
        → IfOk r (λ o. IsRequestOf digest policy nonce certificate (bytes o))
        → IfOk r (λ o. IsRequestOfSignature name file number policy nonce certificate (bytes o))
    signature_asked bytes digest (Ok o) is asks = (alg, named, (digest, is, asks))
    signature_asked bytes digest (Err f) is asks = tt

  pub signature_requested : {V : Type 0} (items : V → List ℕ) (made : Result V Failure) (said : Answer) (status : ℕ)
      (before : List ℕ) (size : ℕ)
      (after : List ℕ)
      → IfOk made (λ v. IsRequestOfSignature name file number policy nonce certificate (items v))
      → IfErr made (RefusesSignature name file number policy nonce certificate)
      → MatchResult made (λ v. IsMade (items v) said status before size after)
      (λ f. IsUnmade f said status before size after)
      → IsSignatureRequested name file number policy nonce certificate said status before size after
  signature_requested items (Ok v) said status before size after is refused told = inl (items v, is, told)
  signature_requested items (Err f) said status before size after is refused told = inr (f, refused, told)
