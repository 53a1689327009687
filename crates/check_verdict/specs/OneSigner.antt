-- The verdict of `check_signer` about one signer of a file, by its number from 1: that of `check`, for that signer
-- alone (RFC 5652, 5.3).
use Rattle.std.specs.Prelude.{◌≡◌, ◌≤◌, ◌⊎◌, ℕ, Bool, List, Option, Some, is_some, Result, Ok, Err}
use Rattle.der_core.specs.Element.{IsBytes}
use Rattle.der_lists.specs.Numbers.{of_number}
use Rattle.cms_types.specs.SignerValue.{SignerValue}
use Rattle.cms_types.specs.SignedDataValue.{SignedDataValue, EncodesSignedData}
use Rattle.cms_types.specs.declared.fault.CmsFault.{CmsFault}
use Rattle.check_fit.specs.declared.rules.DeviceFault.TheVariants as device
use Rattle.check_fit.specs.declared.rules.Refused.{Refused}
use Rattle.check_fit.specs.declared.rules.Refused.TheVariants as refused
use Rattle.check_fit.specs.FileFitting.{SourceFacts, IsReading, signer_rules, OfRules}
use Rattle.trust_lists.specs.Asking.{Asked}
use Rattle.check_verdict.specs.Passing.{Terms}
use Rattle.check_verdict.specs.Verdicts.{IsContent, SignerPasses, Yes, SignerFails, TokensFail}
use Rattle.check_verdict.specs.Headline.{IsDevice}
use Rattle.check_verdict.specs.Asks.{IsAskedOf, AsksOnly}
use Rattle.check_verdict.specs.Alone.{alone}

-- The verdict about the signer of this number, of a content of this type: its earliest moment, or the first rule that
-- it fails, or otherwise that its tokens fail. X2 may be the verdict instead, if the verifier failed.
abbrev pub JudgesAlone : Terms → (content econtent_type : List ℕ) → (number : ℕ) → SignerValue
    → Result ℕ Refused → Type 0
JudgesAlone t content econtent_type number s (Ok m) = SignerPasses t content econtent_type s m
JudgesAlone t content econtent_type number s (Err (refused.File failed)) = ⊥
JudgesAlone t content econtent_type number s (Err (refused.Signer told failed)) = (told ≡ number)
    × SignerFails t content econtent_type s failed
JudgesAlone t content econtent_type number s (Err (refused.Token told token failed)) = (told ≡ number)
    × TokensFail t content econtent_type s token failed
JudgesAlone t content econtent_type number s (Err (refused.Device fault)) = fault ≡ device.AskFailed

-- the signer of this number of a SignedData has this
pub record OfSigner (v : SignedDataValue) (number : ℕ) (Has : SignerValue → Type 0) : Type 0 where
  pub signer : SignerValue
  pub is : of_number v.signers number ≡ Some signer
  pub has : Has signer

abbrev pub JudgesSignerOf : Terms → (number : ℕ) → (content : List ℕ) → SignedDataValue → Result ℕ Refused → Type 0
JudgesSignerOf t number content v result =
    OfSigner v number (λ s. JudgesAlone t content v.encapsulated.content_type number s result)

-- accepted with this moment: the signer of this number is good, and this is its earliest
pub record SignerYes (t : Terms) (file : List ℕ) (handed : Option (List ℕ)) (number m : ℕ) : Type 0 where
  pub signed : SignedDataValue
  pub encodes : EncodesSignedData file signed
  pub content : List ℕ
  pub is_content : IsContent signed.encapsulated.content handed content
  pub accepts : OfSigner signed number (λ s. SignerPasses t content signed.encapsulated.content_type s m)

-- refused by this rule: C1 to C6, or one of the signer or its tokens
abbrev pub SignerRefuses : Terms → (file : List ℕ) → (handed : Option (List ℕ)) → (number : ℕ) → Refused → Type 0
SignerRefuses t file handed number (refused.Device fault) = ⊥
SignerRefuses t file handed number (refused.File failed) = (reading : Result SignedDataValue CmsFault)
    × IsReading file reading × (signer_rules number reading (is_some handed) ≡ Err (refused.File failed))
SignerRefuses t file handed number r = (v : SignedDataValue) × EncodesSignedData file v × (content : List ℕ)
    × IsContent v.encapsulated.content handed content × JudgesSignerOf t number content v (Err r)

abbrev pub IsSignerVerdict : Terms → (file : List ℕ) → (handed : Option (List ℕ)) → (number : ℕ)
    → Result ℕ Refused → Type 0
IsSignerVerdict t file handed number (Ok m) = SignerYes t file handed number m
IsSignerVerdict t file handed number (Err r) = SignerRefuses t file handed number r

abbrev pub SignerVerdictOrDevice : Terms → (file : List ℕ) → (handed : Option (List ℕ)) → (number : ℕ)
    → Result ℕ Refused → Type 0
SignerVerdictOrDevice t file handed number result = IsDevice result ⊎ IsSignerVerdict t file handed number result

-- The verdict, by what the file's octets are read as and what the source of the content did. If one of C1 to C6
-- refuses, none of the content is read.
abbrev pub ChecksSignerBy : {S : Type 0} → SourceFacts S → (List ℕ → SignedDataValue → Result ℕ Refused → Type 0)
    → (number : ℕ) → (file : List ℕ) → (before after : Option S) → Result ℕ Refused → Type 0
ChecksSignerBy facts Judges number octets before after result = (reading : Result SignedDataValue CmsFault)
    × IsReading octets reading
    × OfRules facts Judges (signer_rules number reading (is_some before)) before after result

abbrev pub ChecksSigner : {S : Type 0} → SourceFacts S → Terms → (number : ℕ) → (file : List ℕ)
    → (before after : Option S) → Result ℕ Refused → Type 0
ChecksSigner facts t number octets before after result =
    ChecksSignerBy facts (JudgesSignerOf t number) number octets before after result

-- the same, and no questions were asked except about that signer, which fits the content of this verdict
abbrev pub JudgesSignerAsking : Terms → (OnlyAsked : (Asked → Bool) → Type 0) → (number : ℕ) → (content : List ℕ)
    → SignedDataValue → Result ℕ Refused → Type 0
JudgesSignerAsking t OnlyAsked number content v result = JudgesSignerOf t number content v result
    × AsksOnly OnlyAsked (λ q. OfSigner v number (λ s. IsAskedOf t content v.encapsulated.content_type s q))

abbrev pub ChecksSignerAsking : {S : Type 0} → SourceFacts S → Terms → (OnlyAsked : (Asked → Bool) → Type 0)
    → (number : ℕ) → (file : List ℕ) → (before after : Option S) → Result ℕ Refused → Type 0
ChecksSignerAsking facts t OnlyAsked number octets before after result =
    ChecksSignerBy facts (JudgesSignerAsking t OnlyAsked number) number octets before after result

-- ---- what holds of these definitions

-- a signer is never both accepted and refused
abbrev pub SignersNeverBoth : Type 0
SignersNeverBoth = (t : Terms) (file : List ℕ) (handed : Option (List ℕ)) (number m : ℕ) (r : Refused)
    → SignerYes t file handed number m → SignerRefuses t file handed number r → ⊥

-- it is accepted with at most one moment
abbrev pub SignersHaveOneMoment : Type 0
SignersHaveOneMoment = (t : Terms) (file : List ℕ) (handed : Option (List ℕ)) (number m n : ℕ)
    → SignerYes t file handed number m → SignerYes t file handed number n → m ≡ n

-- and refused by one rule, for one token
abbrev pub SignersHaveOneRefusal : Type 0
SignersHaveOneRefusal = (t : Terms) (file : List ℕ) (handed : Option (List ℕ)) (number : ℕ) (a b : Refused)
    → SignerRefuses t file handed number a → SignerRefuses t file handed number b → alone a ≡ alone b

-- the signer of each number, of each file of octets, is accepted or refused: by C6, if the file has none of this number
abbrev pub SignersAreJudged : Type 0
SignersAreJudged = (t : Terms) (file : List ℕ) (handed : Option (List ℕ)) (number : ℕ) → IsBytes file
    → ((m : ℕ) × SignerYes t file handed number m) ⊎ ((r : Refused) × SignerRefuses t file handed number r)

-- if a file is accepted, each of its signers is, with a moment that is no later
abbrev pub SignersOfAFile : Type 0
SignersOfAFile = (t : Terms) (file : List ℕ) (handed : Option (List ℕ)) (m : ℕ) → Yes t file handed m
    → (v : SignedDataValue) → EncodesSignedData file v → (number : ℕ) (s : SignerValue)
    → of_number v.signers number ≡ Some s
    → (n : ℕ) × SignerYes t file handed number n × (n ≤ m)
