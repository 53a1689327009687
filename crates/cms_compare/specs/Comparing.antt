-- Whether two signatures sign the same (RFC 5652, 5.3 and 5.4): of each file its content, one signer, and what that
-- signer signed.
use Rattle.std.specs.Prelude.{◌≡◌, ◌≢◌, ℕ, true, List, Some, Result, Ok, Err, option_map}
use Rattle.std.specs.Option.{ok_or}
use Rattle.der_core.specs.Results.{◌>>=◌, or_as}
use Rattle.der_lists.specs.Numbers.{of_number}
use Rattle.digests.specs.declared.algorithm.Alg.{Alg}
use Rattle.digests.specs.Messages.{digest_of}
use Rattle.digests.specs.Named.{alg_named}
use Rattle.cms_types.specs.declared.fault.CmsFault.{CmsFault}
use Rattle.cms_types.specs.AttributeValue.{signed_octets}
use Rattle.cms_types.specs.SignerValue.{SignerValue}
use Rattle.cms_types.specs.SignedDataValue.{SignedDataValue, EncodesSignedData}
use Rattle.check_fit.specs.declared.policy.Policy.{Policy}
use Rattle.check_fit.specs.Fitting.{Fits, signer_answer, with_sha1}
use Rattle.check_fit.specs.FileFitting.{IsReading}
use Rattle.cms_compare.specs.declared.compared.Compared.{Compared}
use Rattle.cms_compare.specs.declared.compared.Compared.TheVariants as compared
use Rattle.cms_compare.specs.declared.fault.CompareFault.{CompareFault}
use Rattle.cms_compare.specs.declared.fault.CompareRule.{CompareRule}
use Rattle.cms_compare.specs.declared.fault.CompareRule.TheVariants as rule
use Rattle.cms_compare.specs.declared.fault.Which.{Which}
use Rattle.cms_compare.specs.declared.fault.Which.TheVariants as which

-- SHA-1 is allowed: a comparison accepts nothing
abbrev pub sha1_too : Policy
sha1_too = with_sha1 true

-- The file has this content, and its signer of this number, from 1, fits it: facts in no order.
pub record IsSignedBy (file : List ℕ) (number : ℕ) (content : List ℕ) (s : SignerValue) : Type 0 where
  pub signed : SignedDataValue
  pub encodes : EncodesSignedData file signed
  pub numbered : of_number signed.signers number ≡ Some s
  pub present : signed.encapsulated.content ≡ Some content
  pub fits : Fits sha1_too content signed.encapsulated.content_type s

-- The same digest algorithm is named, and the same octets are signed (RFC 5652, 5.4).
pub record SignAlike (s s' : SignerValue) : Type 0 where
  pub alg : alg_named s.digest_algorithm ≡ alg_named s'.digest_algorithm
  pub octets : option_map signed_octets s.signed_attributes ≡ option_map signed_octets s'.signed_attributes

-- the contents have one digest, by the algorithm that the signer names
abbrev pub HaveOneDigest : SignerValue → (content content' : List ℕ) → Type 0
HaveOneDigest s content content' = (alg : Alg) × (alg_named s.digest_algorithm ≡ Some alg)
    × (digest_of alg content ≡ digest_of alg content')

-- what is answered about a content with its signer, and another with its own
abbrev pub IsCompared : (content : List ℕ) → SignerValue → (content' : List ℕ) → SignerValue → Compared → Type 0
IsCompared content s content' s' compared.Different = SignAlike s s' → ⊥
IsCompared content s content' s' compared.Same = SignAlike s s' × (content ≡ content')
IsCompared content s content' s' compared.Collision = SignAlike s s' × (content ≢ content')
    × HaveOneDigest s content content'

-- the answer about signer i of a file and signer j of another, where both fit their contents
pub record Compares (a : List ℕ) (i : ℕ) (b : List ℕ) (j : ℕ) (answer : Compared) : Type 0 where
  pub content : List ℕ
  pub signer : SignerValue
  pub first : IsSignedBy a i content signer
  pub content' : List ℕ
  pub signer' : SignerValue
  pub second : IsSignedBy b j content' signer'
  pub answers : IsCompared content signer content' signer' answer

-- The order of the rules.

-- content and signer of what a file reads as, or the first of E1 to E4 that fails
abbrev pub signed_by : ℕ → Result SignedDataValue CmsFault → Result (List ℕ × SignerValue) CompareRule
signed_by number (Err f) = Err (rule.Malformed f)
signed_by number (Ok v) = ok_or (of_number v.signers number) rule.NoSuchSigner >>= λ s.
    ok_or v.encapsulated.content rule.NoContent >>= λ content.
    or_as rule.Rule (signer_answer sha1_too content v.encapsulated.content_type s) >>= λ u. Ok (content, s)

-- the rule that a file fails first
abbrev pub FailsFirst : List ℕ → ℕ → CompareRule → Type 0
FailsFirst file number failed = (reading : Result SignedDataValue CmsFault) × IsReading file reading
    × (signed_by number reading ≡ Err failed)

abbrev pub IsSigned : List ℕ → ℕ → Type 0
IsSigned file number = (content : List ℕ) × (s : SignerValue) × IsSignedBy file number content s

-- why two files are not compared: all rules are tested of the first before any of the second
abbrev pub RefusesBy : (a : List ℕ) (i : ℕ) (b : List ℕ) (j : ℕ) → Which → CompareRule → Type 0
RefusesBy a i b j which.First failed = FailsFirst a i failed
RefusesBy a i b j which.Second failed = IsSigned a i × FailsFirst b j failed

abbrev pub RefusesToCompare : (a : List ℕ) (i : ℕ) (b : List ℕ) (j : ℕ) → CompareFault → Type 0
RefusesToCompare a i b j fault = RefusesBy a i b j fault.which fault.rule
