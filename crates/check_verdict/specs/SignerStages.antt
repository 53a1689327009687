-- How far the trusted entries come through the rules S7 to S9 for a signer, by the moments of the tokens that were
-- judged.
use Rattle.std.specs.Prelude.{◌≡◌, ⊤, ℕ, zero, suc, Bool, true, false, ◌⊎◌, ◌<◌, List, [], ◌∷◌, Any, Option, Some, None}
use Rattle.std.specs.Prelude.{Result, IfOk, IfSome, MatchOption}
use Rattle.std.specs.Result.{result_ok, result_err}
use Rattle.cms_types.specs.AttributeValue.{AttributeValue}
use Rattle.cms_types.specs.SignerValue.{SignerValue}
use Rattle.check_fit.specs.declared.rules.TokenRule.{TokenRule}
use Rattle.trust_lists.specs.Entries.{EntryValue}
use Rattle.trust_lists.specs.declared.role.Role.TheVariants.{Signer}
use Rattle.check_names.specs.Naming.{Matches, NamesIfAny}
use Rattle.trust_lists.specs.Asking.{Asked}
use Rattle.check_verdict.specs.Trusted.{Holds, asked}
use Rattle.check_verdict.specs.Filters.{Comes, Best}
use Rattle.check_verdict.specs.Stages.{passed_for_signer}
use Rattle.check_verdict.specs.Passing.{Terms, Vouched, Passes}
use Rattle.check_verdict.specs.TokenRules.{TokenFails}
use Rattle.check_verdict.specs.Verdicts.{IsLeast}
use Rattle.check_verdict.specs.declared.filter.SignerFilter.{SignerFilter}
use Rattle.check_verdict.specs.declared.tally.Tally.{Tally}

-- the entry is a signer's and matches, and holds at the moment if one is given
pub record IsSignersAt (s : SignerValue) (moment : Option ℕ) (e : EntryValue) : Type 0 where
  pub role : e.role ≡ Signer
  pub matches : Matches s.sid e.certificate
  pub period : IfSome moment (Holds e)

-- what an entry passes that is left after each of the filters S7 to S9 at this moment, or at any moment if none is
-- given
abbrev pub LeftAt : Terms → SignerValue → List AttributeValue → Option ℕ → ℕ → EntryValue → Type 0
LeftAt t s attributes moment zero e = ⊤
LeftAt t s attributes moment (suc zero) e = IsSignersAt s moment e
LeftAt t s attributes moment (suc (suc zero)) e = IsSignersAt s moment e × NamesIfAny attributes e.certificate
LeftAt t s attributes moment (suc (suc (suc n))) e = (IsSignersAt s moment e × NamesIfAny attributes e.certificate)
    × Vouched t e s attributes

-- by these answers the entry comes so far for a signer with signed attributes, at this moment or at any one
abbrev pub ComesForSigner : {Fault : Type 0} → (vouches : Asked → Bool) → SignerValue → (moment : Option ℕ)
    → EntryValue → Result (Option SignerFilter) Fault → Type 0
ComesForSigner vouches s moment e result = (t : Terms) → t.vouches ≡ vouches → (attributes : List AttributeValue)
    → s.signed_attributes ≡ Some attributes
    → IfOk result (λ failed. Comes (LeftAt t s attributes moment) 3 e (passed_for_signer failed))

-- nothing was asked but about such a signer under this entry, and only if the entry passes S7 and S8
abbrev pub AsksForSigner : (OnlyAsked : (Asked → Bool) → Type 0) → SignerValue → (moment : Option ℕ) → EntryValue
    → Type 0
AsksForSigner OnlyAsked s moment e = (test : Asked → Bool) → (attributes : List AttributeValue)
    → s.signed_attributes ≡ Some attributes
    → (IsSignersAt s moment e → NamesIfAny attributes e.certificate → test (asked e.certificate s attributes) ≡ true)
    → OnlyAsked test

-- one of these tokens passes with this moment
abbrev pub StampedBy : Terms → SignerValue → List (List ℕ) → ℕ → Type 0
StampedBy t s tokens m = Any (λ token. Passes t token s.signature m) tokens

-- what an entry passes at the moment of one of these tokens
abbrev pub LeftBy : Terms → SignerValue → List AttributeValue → List (List ℕ) → ℕ → EntryValue → Type 0
LeftBy t s attributes tokens k e = (m : ℕ) × StampedBy t s tokens m × LeftAt t s attributes (Some m) k e

-- a moment of the signer by these tokens
abbrev pub MomentBy : Terms → SignerValue → List AttributeValue → List (List ℕ) → ℕ → Type 0
MomentBy t s attributes tokens m = StampedBy t s tokens m × Any (LeftAt t s attributes (Some m) 3) t.trust

-- none of these tokens passes, and this is the rule that the first of them fails, if there is one
abbrev pub FailedBy : Terms → SignerValue → List (List ℕ) → Option TokenRule → Type 0
FailedBy t s tokens failed = ((m : ℕ) → StampedBy t s tokens m → ⊥) × MatchOption failed (tokens ≡ []) (λ rule.
    (first : List ℕ) × (others : List (List ℕ)) × (tokens ≡ first ∷ others) × TokenFails t first s.signature rule)

-- what is known of a signer by these tokens
pub record Tallied (t : Terms) (s : SignerValue) (attributes : List AttributeValue) (tokens : List (List ℕ))
    (tally : Tally) : Type 0 where
  pub best : Best (LeftBy t s attributes tokens) 3 t.trust (passed_for_signer (result_err tally.signed))
  pub earliest : MatchOption (result_ok tally.signed) ((m : ℕ) → MomentBy t s attributes tokens m → ⊥)
      (IsLeast (MomentBy t s attributes tokens))
  pub stamped : tally.is_stamped ≡ true → (m : ℕ) × StampedBy t s tokens m
  pub failed : tally.is_stamped ≡ false → FailedBy t s tokens tally.first_failed

-- under these terms these tokens of a signer with signed attributes were tallied
abbrev pub AreTallied : {Fault : Type 0} → Terms → SignerValue → (tokens : List (List ℕ)) → Result Tally Fault → Type 0
AreTallied terms s tokens result = (t : Terms) → t ≡ terms → (attributes : List AttributeValue)
    → s.signed_attributes ≡ Some attributes → IfOk result (Tallied t s attributes tokens)

-- the earlier of a moment, if there is one, and another
abbrev pub IsEarlier : Option ℕ → ℕ → ℕ → Type 0
IsEarlier None m k = k ≡ m
IsEarlier (Some n) m k = ((n < m) × (k ≡ n)) ⊎ ((n < m → ⊥) × (k ≡ m))
