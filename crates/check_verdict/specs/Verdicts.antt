-- When a file is accepted, with which moment, and how it is refused.
use Rattle.std.specs.Prelude.{◌≡◌, ⊤, ℕ, zero, suc, ◌-◌, ◌<◌, ◌≤◌, ◌⊎◌, List, [], ◌∷◌, take, All, Any, slice_get}
use Rattle.std.specs.Prelude.{Option, Some, None, is_some, Result, Ok, Err}
use Rattle.cms_types.specs.AttributeValue.{AttributeValue}
use Rattle.cms_types.specs.SignerValue.{SignerValue}
use Rattle.cms_types.specs.SignedDataValue.{SignedDataValue, EncodesSignedData}
use Rattle.cms_types.specs.Tokens.{tokens_of}
use Rattle.cms_types.specs.declared.fault.CmsFault.{CmsFault}
use Rattle.check_fit.specs.declared.rules.SignerRule.{SignerRule}
use Rattle.check_fit.specs.declared.rules.SignerRule.TheVariants as rule
use Rattle.check_fit.specs.declared.rules.TokenRule.{TokenRule}
use Rattle.check_fit.specs.declared.rules.DeviceFault.TheVariants as device
use Rattle.check_fit.specs.declared.rules.Refused.{Refused}
use Rattle.check_fit.specs.declared.rules.Refused.TheVariants as refused
use Rattle.check_fit.specs.Fitting.{Fits, FailsFirst}
use Rattle.check_fit.specs.FileFitting.{IsReading, file_rules}
use Rattle.trust_lists.specs.Entries.{EntryValue}
use Rattle.trust_lists.specs.declared.role.Role.TheVariants.{Signer}
use Rattle.check_verdict.specs.Trusted.{Holds}
use Rattle.check_names.specs.Naming.{Matches, NamesIfAny}
use Rattle.check_verdict.specs.Filters.{StopsAt}
use Rattle.check_verdict.specs.Passing.{Terms, Vouched, Passes}
use Rattle.check_verdict.specs.TokenRules.{TokenFails}

-- ---- a signer

abbrev pub tokens : SignerValue → List (List ℕ)
tokens s = tokens_of s.unsigned_attributes

-- a token of the signer passes with this moment
abbrev pub IsStamped : Terms → SignerValue → ℕ → Type 0
IsStamped t s m = Any (λ token. Passes t token s.signature m) (tokens s)

-- the verifier vouches for the signer under a trusted entry of a signer, which holds at this moment
pub record SignedUnder (t : Terms) (s : SignerValue) (attributes : List AttributeValue) (m : ℕ)
    (e : EntryValue) : Type 0 where
  pub role : e.role ≡ Signer
  pub matches : Matches s.sid e.certificate
  pub named : NamesIfAny attributes e.certificate
  pub period : Holds e m
  pub vouched : Vouched t e s attributes

-- a moment of the signer: a token passes with it, and the verifier vouches for the signer under one trusted entry that
-- holds at it
pub record IsMoment (t : Terms) (s : SignerValue) (m : ℕ) : Type 0 where
  pub stamped : IsStamped t s m
  pub attributes : List AttributeValue
  pub has : s.signed_attributes ≡ Some attributes
  pub entry : Any (SignedUnder t s attributes m) t.trust

pub record IsLeast (P : ℕ → Type 0) (m : ℕ) : Type 0 where
  pub has : P m
  pub least : (n : ℕ) → P n → m ≤ n

pub record IsGreatest (P : ℕ → Type 0) (m : ℕ) : Type 0 where
  pub has : P m
  pub greatest : (n : ℕ) → P n → n ≤ m

-- the signer is good: its attributes fit the content, and this is its earliest moment
pub record SignerPasses (t : Terms) (content econtent_type : List ℕ) (s : SignerValue) (m : ℕ) : Type 0 where
  pub fits : Fits t.policy content econtent_type s
  pub earliest : IsLeast (IsMoment t s) m

-- ---- a file

-- exactly one of the file's own content and the content that was handed in is present, and it is the content
abbrev pub IsContent : (own handed : Option (List ℕ)) → List ℕ → Type 0
IsContent None None content = ⊥
IsContent None (Some other) content = content ≡ other
IsContent (Some own) None content = content ≡ own
IsContent (Some own) (Some other) content = ⊥

-- Accepted with this moment: each signer of this content of this type is good, and the moment is the latest signer's
-- earliest.
pub record Accepts (t : Terms) (content econtent_type : List ℕ) (signers : List SignerValue) (m : ℕ) : Type 0 where
  pub each : All (λ s. (n : ℕ) × SignerPasses t content econtent_type s n) signers
  pub latest : IsGreatest (λ n. Any (λ s. SignerPasses t content econtent_type s n) signers) m

pub record Yes (t : Terms) (file : List ℕ) (handed : Option (List ℕ)) (m : ℕ) : Type 0 where
  pub signed : SignedDataValue
  pub encodes : EncodesSignedData file signed
  pub content : List ℕ
  pub is_content : IsContent signed.encapsulated.content handed content
  pub accepts : Accepts t content signed.encapsulated.content_type signed.signers m

-- ---- refusals

-- What an entry passes that is left after each of the filters S7 to S9. It matches; and if a token of the signer
-- passes, it holds at the moment of one. So a token that fails filters nothing.
pub record IsSigners (t : Terms) (s : SignerValue) (e : EntryValue) : Type 0 where
  pub role : e.role ≡ Signer
  pub matches : Matches s.sid e.certificate
  pub period : (n : ℕ) → IsStamped t s n → (m : ℕ) × IsStamped t s m × Holds e m

abbrev pub IsNamedSigners : Terms → SignerValue → List AttributeValue → EntryValue → Type 0
IsNamedSigners t s attributes e = IsSigners t s e × NamesIfAny attributes e.certificate

abbrev pub LeftForSigner : Terms → SignerValue → List AttributeValue → ℕ → EntryValue → Type 0
LeftForSigner t s attributes zero e = ⊤
LeftForSigner t s attributes (suc zero) e = IsSigners t s e
LeftForSigner t s attributes (suc (suc zero)) e = IsNamedSigners t s attributes e
LeftForSigner t s attributes (suc (suc (suc n))) e = IsNamedSigners t s attributes e × Vouched t e s attributes

abbrev pub signer_filter : ℕ → SignerRule
signer_filter zero = rule.UnknownSigner
signer_filter (suc zero) = rule.NotNamed
signer_filter (suc (suc n)) = rule.SignatureFails

pub record SignerRunsOut (t : Terms) (content econtent_type : List ℕ) (s : SignerValue)
    (failed : SignerRule) : Type 0 where
  pub fits : Fits t.policy content econtent_type s
  pub attributes : List AttributeValue
  pub has : s.signed_attributes ≡ Some attributes
  pub filter : ℕ
  pub stops : StopsAt (LeftForSigner t s attributes) 3 t.trust filter
  pub is : failed ≡ signer_filter filter

-- S1 to S9 hold: the attributes fit the content, and an entry is left after the last filter
pub record Signs (t : Terms) (content econtent_type : List ℕ) (s : SignerValue) : Type 0 where
  pub fits : Fits t.policy content econtent_type s
  pub attributes : List AttributeValue
  pub has : s.signed_attributes ≡ Some attributes
  pub entry : Any (LeftForSigner t s attributes 3) t.trust

-- the first of S1 to S10 that the signer fails
abbrev pub SignerFails : Terms → (content econtent_type : List ℕ) → SignerValue → SignerRule → Type 0
SignerFails t content econtent_type s failed = FailsFirst t.policy content econtent_type s failed
    ⊎ (SignerRunsOut t content econtent_type s failed
    ⊎ (Signs t content econtent_type s × (tokens s ≡ []) × (failed ≡ rule.NoToken)))

-- S1 to S10 hold, none of its tokens passes, and its first fails this rule first
pub record TokensFail (t : Terms) (content econtent_type : List ℕ) (s : SignerValue) (token_number : ℕ)
    (failed : TokenRule) : Type 0 where
  pub signs : Signs t content econtent_type s
  pub none : (m : ℕ) → IsStamped t s m → ⊥
  pub first : List ℕ
  pub others : List (List ℕ)
  pub are : tokens s ≡ first ∷ others
  pub is_first : token_number ≡ 1
  pub fails : TokenFails t first s.signature failed

-- the first signer that isn't good, by its number
pub record FirstBad (t : Terms) (content econtent_type : List ℕ) (signers : List SignerValue) (signer_number : ℕ)
    (Bad : SignerValue → Type 0) : Type 0 where
  pub counts : 0 < signer_number
  pub before : All (λ s. (n : ℕ) × SignerPasses t content econtent_type s n) (take (signer_number - 1) signers)
  pub signer : SignerValue
  pub is : slice_get signers (signer_number - 1) ≡ Some signer
  pub bad : Bad signer

-- The verdict about the signers of a content of this type: of `check` (that of `fits` is `FitsSigners`). X2 may be the
-- verdict instead, if the verifier failed, which its count of failures shows.
abbrev pub JudgesSigners : Terms → (content econtent_type : List ℕ) → List SignerValue → Result ℕ Refused → Type 0
JudgesSigners t content econtent_type signers (Ok m) = Accepts t content econtent_type signers m
JudgesSigners t content econtent_type signers (Err (refused.File failed)) = ⊥
JudgesSigners t content econtent_type signers (Err (refused.Signer number failed)) =
    FirstBad t content econtent_type signers number (λ s. SignerFails t content econtent_type s failed)
JudgesSigners t content econtent_type signers (Err (refused.Token number token failed)) =
    FirstBad t content econtent_type signers number (λ s. TokensFail t content econtent_type s token failed)
JudgesSigners t content econtent_type signers (Err (refused.Device fault)) = fault ≡ device.AskFailed

abbrev pub Judges : Terms → (content : List ℕ) → SignedDataValue → Result ℕ Refused → Type 0
Judges t content v result = JudgesSigners t content v.encapsulated.content_type v.signers result

-- the file is refused by this rule
abbrev pub Refuses : Terms → (file : List ℕ) → (handed : Option (List ℕ)) → Refused → Type 0
Refuses t file handed (refused.Device fault) = ⊥
Refuses t file handed (refused.File failed) = (reading : Result SignedDataValue CmsFault) × IsReading file reading
    × (file_rules reading (is_some handed) ≡ Err (refused.File failed))
Refuses t file handed r = (v : SignedDataValue) × EncodesSignedData file v × (content : List ℕ)
    × IsContent v.encapsulated.content handed content × Judges t content v (Err r)
