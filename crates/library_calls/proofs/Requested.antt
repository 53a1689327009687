-- What was told of a request that was made, or was not.
use Rattle.std.proofs.Common.{◌≡◌, ◌⊎◌, ◌≤◌, ◌^◌, ℕ, Bool, List, Option, Result, Ok, Err, IfOk, IfErr, inl, inr, subst}
use Rattle.std.proofs.Common.{IfSome, length, true}
use Rattle.std.specs.Prelude.{MatchResult}
use Rattle.der_core.specs.Contents.{is_integer}
use Rattle.digests.specs.declared.value.Digest.{Digest}
use Rattle.tsp_types.specs.Asked.{asked}
use Rattle.tsp_types.specs.RequestValue.{EncodesRequest, request_parts}
use Rattle.cli_failures.specs.declared.failure.Failure.{Failure}
use Rattle.cli_failures.specs.declared.failure.Failure.TheVariants as failure
use Rattle.cli_failures.specs.Causes.{Names}
use Rattle.cli_failures.specs.Requests.{longer}
use Rattle.library_answers.specs.declared.answer.Answer.{Answer}
use Rattle.library_answers.specs.Failures.{IsMade, IsUnmade}
use Rattle.library_calls.specs.Requests.{IsPolicy, IsNonce, AreValues, IsRequestOf, RefusesAlg}
use Rattle.library_calls.specs.Requests.{RefusesDigest, RefusesPolicy, RefusesLength, RefusesValues, IsRequested}

abbrev pub values : (policy nonce : List ℕ) (oid number : Option (List ℕ)) → IsPolicy policy oid → IsNonce nonce number
    → IfSome number (λ b. is_integer b ≡ true) → AreValues policy nonce
values policy nonce oid number is_policy is_nonce integer = record {
  oid = oid;
  is_policy = is_policy;
  number = number;
  is_nonce = is_nonce;
  integer = integer;
}

module _ (policy nonce : List ℕ) (certificate : Bool) where
  module _ (are : AreValues policy nonce) (digest : Digest) (oid : Option (List ℕ)) (same : oid ≡ are.oid) where
    -- a request of these values, which are those that were handed in
    pub asks : {V : Type 0} (items : V → List ℕ) (made : Result V Failure)
        → IfOk made (λ v. EncodesRequest (items v) (asked digest oid are.number certificate))
        → IfOk made (λ v. IsRequestOf digest policy nonce certificate (items v))
    asks items (Ok v) encoded = (
      are,
      subst (λ (p : Option (List ℕ)). EncodesRequest (items v) (asked digest p are.number certificate)) same encoded,
    )
    asks items (Err f) encoded = tt

    -- such a request is too long
    pub too_long : {V : Type 0} (made : Result V Failure)
        → IfErr made (λ f. (f ≡ failure.Memory) ⊎ (Names (longer oid) f
        × (2 ^ 32 ≤ length (request_parts (asked digest oid are.number certificate)))))
        → IfErr made (λ f. (f ≡ failure.Memory) ⊎ RefusesLength digest policy nonce certificate f)
    too_long (Ok v) long = tt
    too_long (Err f) (inl memory) = inl memory
    too_long (Err f) (inr (names, size)) = inr (
      are,
      subst (λ (p : Option (List ℕ)). Names (longer p) f) same names,
      subst (λ (p : Option (List ℕ)). 2 ^ 32 ≤ length (request_parts (asked digest p are.number certificate))) same
          size,
    )

  module _ (given : Result Digest Failure) (digest : Digest) (is : given ≡ Ok digest) where
    -- the same of a digest, if there is one
    pub policy_refused_given : (f : Failure) → (f ≡ failure.Memory) ⊎ RefusesPolicy policy f
        → (given ≡ Err f) ⊎ ((d : Digest) × (given ≡ Ok d) × RefusesValues d policy nonce certificate f)
    policy_refused_given f (inl memory) = inr (digest, is, inl memory)
    policy_refused_given f (inr refused) = inr (digest, is, inr (inl refused))

    pub asks_given : {V : Type 0} (items : V → List ℕ) (made : Result V Failure)
        → IfOk made (λ v. IsRequestOf digest policy nonce certificate (items v))
        → IfOk made (λ v. (d : Digest) × (given ≡ Ok d) × IsRequestOf d policy nonce certificate (items v))
    asks_given items (Ok v) asks = (digest, is, asks)
    asks_given items (Err f) asks = tt

    pub too_long_given : {V : Type 0} (made : Result V Failure)
        → IfErr made (λ f. (f ≡ failure.Memory) ⊎ RefusesLength digest policy nonce certificate f)
        → IfErr made (λ f. (given ≡ Err f) ⊎ ((d : Digest) × (given ≡ Ok d)
        × RefusesValues d policy nonce certificate f))
    too_long_given (Ok v) long = tt
    too_long_given (Err f) (inl memory) = inr (digest, is, inl memory)
    too_long_given (Err f) (inr long) = inr (digest, is, inr (inr (inr long)))

  -- a digest of octets is refused by the algorithm's name alone
  pub by_name : (IsDigest : Digest → Type 0) (name : List ℕ) (given : Result Digest Failure)
      → IfErr given (RefusesAlg name) → IfErr given (λ f. RefusesAlg name f ⊎ RefusesDigest name IsDigest f)
  by_name IsDigest name (Ok d) refused = tt
  by_name IsDigest name (Err f) refused = inl refused

  module _ (IsDigest : Digest → Type 0) (name : List ℕ) (given : Result Digest Failure) (found : IfOk given IsDigest)
      (none : IfErr given (λ f. RefusesAlg name f ⊎ RefusesDigest name IsDigest f)) where
    -- what was told of a request of this digest, made or not
    pub requested : {V : Type 0} (items : V → List ℕ) (made : Result V Failure) (said : Answer) (status : ℕ)
        (before : List ℕ) (size : ℕ) (after : List ℕ)
        → IfOk made (λ v. (d : Digest) × (given ≡ Ok d) × IsRequestOf d policy nonce certificate (items v))
        → IfErr made (λ f. (given ≡ Err f) ⊎ ((d : Digest) × (given ≡ Ok d)
        × RefusesValues d policy nonce certificate f))
        → MatchResult made (λ v. IsMade (items v) said status before size after)
        (λ f. IsUnmade f said status before size after)
        → IsRequested IsDigest name policy nonce certificate said status before size after
    requested items (Ok v) said status before size after (d, e, request) refused told =
        inl (items v, d, subst (λ (r : Result Digest Failure). IfOk r IsDigest) e found, request, told)
    requested items (Err f) said status before size after made (inl e) told = inr (
      f,
      inl (subst (λ (r : Result Digest Failure). IfErr r (λ g. RefusesAlg name g ⊎ RefusesDigest name IsDigest g)) e
          none),
      told,
    )
    requested items (Err f) said status before size after made (inr (d, e, refused)) told =
        inr (f, inr (d, subst (λ (r : Result Digest Failure). IfOk r IsDigest) e found, refused), told)
