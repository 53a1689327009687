-- What is said where the words name what is to be stamped.
use Rattle.std.proofs.Common.{◌≡◌, ◌⊎◌, ◌≤◌, ◌^◌, ℕ, List, Option, Result, Ok, Err, inl, inr, sym, subst, codes, length}
use Rattle.std.specs.Prelude.{IfOk, IfErr}
use Rattle.std.specs.Borrow.{Bor}
use Rattle.digests.specs.declared.algorithm.Alg.{Alg}
use Rattle.digests.specs.declared.value.Digest.{Digest}
use Rattle.digests.specs.Algorithms.{name_of}
use Rattle.cli_failures.specs.declared.failure.Failure.{Failure}
use Rattle.cli_failures.specs.declared.failure.Failure.TheVariants as failure
use Rattle.cli_tasks.specs.declared.task.RequestWords.{RequestWords}
use Rattle.cli_tasks.specs.declared.task.Stamped.{Stamped}
use Rattle.cli_tasks.specs.declared.task.Stamped.TheVariants as stamped
use Rattle.tsp_types.specs.Asked.{asked}
use Rattle.tsp_types.specs.RequestValue.{EncodesRequest, request_parts}
use Rattle.cli_failures.specs.Causes.{Names}
use Rattle.cli_failures.specs.Files.{IsFailureToRead, IsHeld}
use Rattle.cli_failures.specs.Signatures.{HasNoSigner, IsSignatureDigest}
use Rattle.cli_values.specs.Values.{IsDigest}
use Rattle.cli_commands.specs.Requests.{AreValues, IsRequestFor, IsRequestOf, IsStamped}
use Rattle.cli_commands.specs.Refusals.{Refuses, RefusesGiven, RefusesLength, RefusesSignature, RefusesStamped}

pub of_digest :
    {F : Type 0} (holds : F → Option (List ℕ)) (words : RequestWords) (digits : Bor (List ℕ)) (octets : List ℕ)
    → words.stamped ≡ stamped.Digest digits
    → (digest : Digest) × IsDigest words.alg.now digits.now digest × IsRequestFor words digest octets
    → IsRequestOf holds words octets
of_digest holds words digits octets e (digest, is, for) =
    record {
      digest = digest;
      of_digest = subst (λ (s : Stamped). IsStamped holds words.alg.now s digest) (sym e) is;
      is = for;
    }

pub of_signature : {F : Type 0} (holds : F → Option (List ℕ)) (words : RequestWords) (path : Bor (List ℕ)) (number : ℕ)
    (octets : List ℕ)
    → words.stamped ≡ stamped.Signature path number
    → (alg : Alg) × (words.alg.now ≡ name_of alg) × ((file : List ℕ) × (digest : Digest) × IsHeld holds file
    × IsSignatureDigest alg file number digest × IsRequestFor words digest octets)
    → IsRequestOf holds words octets
of_signature holds words path number octets e (alg, named, (file, digest, read, is, for)) =
    record {
      digest = digest;
      of_digest = subst (λ (s : Stamped). IsStamped holds words.alg.now s digest) (sym e)
          (alg, named, (file, read, is));
      is = for;
    }

pub digest_refused :
    {F T : Type 0} (holds : F → Option (List ℕ)) (words : RequestWords) (digits : Bor (List ℕ)) (r : Result T Failure)
    → words.stamped ≡ stamped.Digest digits
    → IfErr r (λ f. (f ≡ failure.Memory) ⊎ RefusesGiven words digits.now f) → IfErr r (Refuses holds words)
digest_refused holds words digits (Ok octets) e refused = tt
digest_refused holds words digits (Err f) e (inl m) = inl m
digest_refused holds words digits (Err f) e (inr r) =
    inr (subst (λ (s : Stamped). RefusesStamped holds words s f) (sym e) r)

pub signature_refused : {F T : Type 0} (holds : F → Option (List ℕ)) (words : RequestWords) (path : Bor (List ℕ))
    (number : ℕ) (r : Result T Failure)
    → words.stamped ≡ stamped.Signature path number
    → IfErr r (λ f. (f ≡ failure.Memory) ⊎ RefusesSignature holds words path number f) → IfErr r (Refuses holds words)
signature_refused holds words path number (Ok t) e refused = tt
signature_refused holds words path number (Err f) e (inl m) = inl m
signature_refused holds words path number (Err f) e (inr refused) =
    inr (subst (λ (s : Stamped). RefusesStamped holds words s f) (sym e) refused)

-- ---- a request that would be too long

abbrev IsTooLong : RequestWords → Digest → (policy nonce : Option (List ℕ)) → Failure → Type 0
IsTooLong words digest policy nonce f =
    (f ≡ failure.Memory) ⊎ ((Names (codes "policy") f ⊎ Names (codes "nonce") f)
    × (2 ^ 32 ≤ length (request_parts (asked digest policy nonce words.cert))))

too_long : (words : RequestWords) (digest : Digest) (policy nonce : Option (List ℕ)) (f : Failure)
    → AreValues words policy nonce
    → (Names (codes "policy") f ⊎ Names (codes "nonce") f)
    × (2 ^ 32 ≤ length (request_parts (asked digest policy nonce words.cert)))
    → RefusesLength words digest f
too_long words digest policy nonce f are (names, size) =
    record { policy = policy; nonce = nonce; are = are; size = size; names = names }

pub digest_too_long : {T : Type 0} (words : RequestWords) (digits : List ℕ) (digest : Digest)
    (policy nonce : Option (List ℕ)) (r : Result T Failure)
    → IsDigest words.alg.now digits digest
    → AreValues words policy nonce → IfErr r (IsTooLong words digest policy nonce)
    → IfErr r (λ f. (f ≡ failure.Memory) ⊎ RefusesGiven words digits f)
digest_too_long words digits digest p n (Ok t) is are long = tt
digest_too_long words digits digest p n (Err f) is are (inl m) = inl m
digest_too_long words digits digest p n (Err f) is are (inr long) =
    inr (inr (digest, is, inr (too_long words digest p n f are long)))

-- ---- a signature in a file

module _ {F : Type 0} (holds : F → Option (List ℕ)) (words : RequestWords) (alg : Alg) (path : Bor (List ℕ))
    (number : ℕ)
    (policy nonce : Option (List ℕ)) (named : words.alg.now ≡ name_of alg) (are : AreValues words policy nonce) where
  pub file_refused : (f : Failure) → IsFailureToRead path f
      → (f ≡ failure.Memory) ⊎ RefusesSignature holds words path number f
  file_refused f fails = inr (inr (alg, named, inr ((policy, nonce, are), inl fails)))

  pub signer_refused : (file : List ℕ) (f : Failure) → IsHeld holds file → HasNoSigner file number f
      → (f ≡ failure.Memory) ⊎ RefusesSignature holds words path number f
  signer_refused file f read has = inr (inr (alg, named, inr ((policy, nonce, are), inr (file, read, inl has))))

  pub signature_too_long : {T : Type 0} (file : List ℕ) (digest : Digest) (r : Result T Failure) → IsHeld holds file
      → IsSignatureDigest alg file number digest
      → IfErr r (IsTooLong words digest policy nonce)
      → IfErr r (λ f. (f ≡ failure.Memory) ⊎ RefusesSignature holds words path number f)
  signature_too_long file digest (Ok t) read is long = tt
  signature_too_long file digest (Err f) read is (inl m) = inl m
  signature_too_long file digest (Err f) read is (inr long) =
      inr (inr (
        alg,
        named,
        inr
            ((policy, nonce, are), inr (file, read, inr (digest, is, too_long words digest policy nonce f are long))),
      ))

  pub signature_asked : {T : Type 0} (bytes : T → List ℕ) (file : List ℕ) (digest : Digest) (r : Result T Failure)
      → IsHeld holds file
      → IsSignatureDigest alg file number digest
      → IfOk r (λ o. EncodesRequest (bytes o) (asked digest policy nonce words.cert))
      → IfOk r (λ o. (a : Alg) × (words.alg.now ≡ name_of a)
      × ((octets : List ℕ) × (d : Digest) × IsHeld holds octets × IsSignatureDigest a octets number d
      × IsRequestFor words d (bytes o)))
  signature_asked bytes file digest (Ok o) read is encoded =
      (alg, named, (file, digest, read, is, record { policy = policy; nonce = nonce; are = are; encoded = encoded }))
  signature_asked bytes file digest (Err f) read is encoded = tt
