-- The last filter, for which the verifier is asked, behind those that need no question.
use Rattle.std.proofs.Common.{◌≡◌, ℕ, suc, ◌+◌, ◌<◌, List, [], Option, Some, None, refl, sym, subst, arith, inl, inr}
use Rattle.std.specs.Prelude.{option_map, unwrap_or}
use Rattle.cert_types.specs.CertificateValue.{CertificateValue}
use Rattle.cms_types.specs.AttributeValue.{AttributeValue}
use Rattle.cms_types.specs.SignerValue.{SignerValue}
use Rattle.trust_lists.specs.Asking.{Asked}
use Rattle.check_names.specs.Naming.{MustName}
use Rattle.check_verdict.specs.Trusted.{asked}
use Rattle.check_verdict.specs.Filters.{Comes}
use Rattle.check_verdict.specs.Stages.{before_signer, before_token}
use Rattle.check_verdict.specs.declared.filter.SignerFilter.{SignerFilter}
use Rattle.check_verdict.specs.declared.filter.SignerFilter.TheVariants as signer
use Rattle.check_verdict.specs.declared.filter.TokenFilter.{TokenFilter}
use Rattle.check_verdict.specs.declared.filter.TokenFilter.TheVariants as token

module _ {E : Type 0} (Left : ℕ → E → Type 0) (total : ℕ) (e : E) where
  -- it comes no further than to a filter before the last
  comes_on : (k : ℕ) → k < total → Comes Left total e k → Comes Left (suc total) e k
  comes_on k lt h = record { within = omega (arith, lt); left = h.left; none = λ below p. h.none lt p }

  -- it passes all of them
  pub comes_through : Left (suc total) e → Comes Left (suc total) e (suc total)
  comes_through p = record { within = omega arith; left = λ some. p; none = λ below q. absurd (omega (arith, below)) }

  -- or all but the last
  pub comes_short : Left total e → (Left (suc total) e → ⊥) → Comes Left (suc total) e total
  comes_short p never = record {
    within = omega arith;
    left = λ some. p;
    none = λ below q. (let z : total + 1 ≡ suc total = omega arith in never (subst (λ (n : ℕ). Left n e) z q));
  }

-- ---- an entry for which the verifier wasn't asked yet

module _ {E : Type 0} (Left : ℕ → E → Type 0) (e : E) where
  early_token : (failed : TokenFilter) → (failed ≡ token.SignatureFails → ⊥) → before_token failed < 4
  early_token token.UnknownTsa other = omega arith
  early_token token.NotNamed other = omega arith
  early_token token.Purpose other = omega arith
  early_token token.Period other = omega arith
  early_token token.SignatureFails other = absurd (other refl)

  -- it fails one of K10 to K13
  pub token_stops : (failed : TokenFilter) → (failed ≡ token.SignatureFails → ⊥) → Comes Left 4 e (before_token failed)
      → Comes Left 5 e (before_token failed)
  token_stops failed other h = comes_on Left 4 e (before_token failed) (early_token failed other) h

  -- it passes them
  pub token_is_left : (failed : TokenFilter) → failed ≡ token.SignatureFails → Comes Left 4 e (before_token failed)
      → Left 4 e
  token_is_left failed is h =
      (subst (λ (filter : TokenFilter). Comes Left 4 e (before_token filter)) is h).left (omega arith)

  early_signer : (failed : SignerFilter) → (failed ≡ signer.SignatureFails → ⊥) → before_signer failed < 2
  early_signer signer.UnknownSigner other = omega arith
  early_signer signer.NotNamed other = omega arith
  early_signer signer.SignatureFails other = absurd (other refl)

  -- it fails one of S7 and S8
  pub signer_stops : (failed : SignerFilter) → (failed ≡ signer.SignatureFails → ⊥)
      → Comes Left 2 e (before_signer failed)
      → Comes Left 3 e (before_signer failed)
  signer_stops failed other h = comes_on Left 2 e (before_signer failed) (early_signer failed other) h

  -- it passes them
  pub signer_is_left : (failed : SignerFilter) → failed ≡ signer.SignatureFails → Comes Left 2 e (before_signer failed)
      → Left 2 e
  signer_is_left failed is h =
      (subst (λ (filter : SignerFilter). Comes Left 2 e (before_signer filter)) is h).left (omega arith)

-- ---- a filter comes before the end of them

pub token_is_within : (filter : TokenFilter) → before_token filter < 5
token_is_within token.UnknownTsa = omega arith
token_is_within token.NotNamed = omega arith
token_is_within token.Purpose = omega arith
token_is_within token.Period = omega arith
token_is_within token.SignatureFails = omega arith

pub signer_is_within : (filter : SignerFilter) → before_signer filter < 3
signer_is_within signer.UnknownSigner = omega arith
signer_is_within signer.NotNamed = omega arith
signer_is_within signer.SignatureFails = omega arith

-- what is asked of a signer
pub question_is : (c : CertificateValue) (s : SignerValue) (q : Asked)
    → option_map (asked c s) s.signed_attributes ≡ Some q
    → q ≡ asked c s (unwrap_or s.signed_attributes [])
question_is c s q e = go s.signed_attributes e
  where
    go : (o : Option (List AttributeValue)) → option_map (asked c s) o ≡ Some q → q ≡ asked c s (unwrap_or o [])
    go None h = absurd cc
    go (Some xs) h = cc

pub question_of_some : (c : CertificateValue) (s : SignerValue) (attributes : List AttributeValue) (q : Asked)
    → s.signed_attributes ≡ Some attributes
    → option_map (asked c s) s.signed_attributes ≡ Some q → q ≡ asked c s attributes
question_of_some c s attributes q has e = subst (λ (o : Option (List AttributeValue)). option_map (asked c s) o ≡ Some q
    → q ≡ asked c s attributes) (sym has) (λ h. cc) e

-- no attributes name anybody
pub unnamed : (c d : CertificateValue) (s : SignerValue) → option_map (asked c s) s.signed_attributes ≡ None
    → MustName (unwrap_or s.signed_attributes []) d → ⊥
unnamed c d s e = go s.signed_attributes e
  where
    go : (o : Option (List AttributeValue)) → option_map (asked c s) o ≡ None → MustName (unwrap_or o []) d → ⊥
    go None h n = elim n.some [ inl occurs ↦ occurs refl | inr occurs ↦ occurs refl ]
    go (Some xs) h n = absurd cc
