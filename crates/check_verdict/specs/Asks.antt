-- The questions that a check asks the verifier: about a signer that fits the content, or about a token of it, under an
-- entry that passed the earlier filters.
use Rattle.std.specs.Prelude.{◌≡◌, ◌⊎◌, ℕ, Bool, true, List, Contains, Ok}
use Rattle.cms_types.specs.AttributeValue.{AttributeValue}
use Rattle.cms_types.specs.SignerValue.{SignerValue}
use Rattle.cms_types.specs.SignedDataValue.{SignedDataValue}
use Rattle.check_fit.specs.declared.policy.Policy.{Policy}
use Rattle.check_fit.specs.Fitting.{Fits}
use Rattle.trust_lists.specs.Entries.{EntryValue}
use Rattle.trust_lists.specs.Asking.{Asked}
use Rattle.check_verdict.specs.Trusted.{asked}
use Rattle.check_verdict.specs.Passing.{Terms, Due, of_octets}
use Rattle.check_verdict.specs.TokenRules.{TokenClaim, IsClaim, IsInPeriod}
use Rattle.check_verdict.specs.Verdicts.{tokens, IsNamedSigners}

-- asked about a token: K1 to K9 hold for it, and the entry passed K10 to K13
pub record IsAskedFor (policy : Policy) (trust : List EntryValue) (due : Due) (token : List ℕ)
    (q : Asked) : Type 0 where
  pub claim : TokenClaim
  pub is_claim : IsClaim policy due token (Ok claim)
  pub entry : EntryValue
  pub trusted : Contains trust entry
  pub passed : IsInPeriod claim entry
  pub is : q ≡ asked entry.certificate claim.signer claim.attributes

-- the same of a token for octets that were stamped
abbrev pub IsAskedOfToken : Policy → (trust : List EntryValue) → (stamped token : List ℕ) → Asked → Type 0
IsAskedOfToken policy trust stamped token q = IsAskedFor policy trust (of_octets stamped) token q

-- asked about a signer: the entry passed S7 and S8
pub record IsAskedOfSigner (t : Terms) (s : SignerValue) (attributes : List AttributeValue) (q : Asked) : Type 0 where
  pub entry : EntryValue
  pub trusted : Contains t.trust entry
  pub passed : IsNamedSigners t s attributes entry
  pub is : q ≡ asked entry.certificate s attributes

-- asked about a signer that fits this content of this type, or about a token of it
pub record IsAskedOf (t : Terms) (content econtent_type : List ℕ) (s : SignerValue) (q : Asked) : Type 0 where
  pub fits : Fits t.policy content econtent_type s
  pub about : IsAskedOfSigner t s fits.attributes q
      ⊎ ((token : List ℕ) × Contains (tokens s) token × IsAskedOfToken t.policy t.trust s.signature token q)

-- asked about one of the signers of a SignedData and this content
pub record IsAskedIn (t : Terms) (content : List ℕ) (v : SignedDataValue) (q : Asked) : Type 0 where
  pub signer : SignerValue
  pub among : Contains v.signers signer
  pub about : IsAskedOf t content v.encapsulated.content_type signer q

-- no questions were asked other than these: each test that is true of these is true of all that were asked
abbrev pub AsksOnly : (OnlyAsked : (Asked → Bool) → Type 0) → (IsThis : Asked → Type 0) → Type 0
AsksOnly OnlyAsked IsThis = (test : Asked → Bool) → ((q : Asked) → IsThis q → test q ≡ true) → OnlyAsked test
