-- When a token is attached to a signer of a file, and why not: facts in no order, and the order of the rules.
use Rattle.std.specs.Prelude.{◌≡◌, ℕ, List, ◌++◌, Some, None, Result, Ok, Err}
use Rattle.std.specs.List.{AllByRecursion}
use Rattle.devices.specs.Device.{raised, Stops}
use Rattle.der_core.specs.Values.{HasLength}
use Rattle.der_core.specs.Faults.{Faults}
use Rattle.der_core.specs.Grammar.{file}
use Rattle.der_grammar.specs.Table.{content_info}
use Rattle.der_lists.specs.Numbers.{of_number}
use Rattle.digests.specs.Algorithms.{Names}
use Rattle.digests.specs.Messages.{digest_of}
use Rattle.digests.specs.declared.algorithm.Alg.{Alg}
use Rattle.cms_types.specs.SignerValue.{SignerValue}
use Rattle.cms_types.specs.SignedDataValue.{SignedDataValue, SignedContent, encoding, EncodesSignedData}
use Rattle.cms_types.specs.SignedDataValue.{EncodesAnotherType}
use Rattle.cms_types.specs.declared.fault.CmsFault.TheVariants as cms
use Rattle.tsp_types.specs.ImprintValue.{ImprintValue}
use Rattle.tsp_types.specs.TstValue.{TstValue, EncodesTst, id_tst_info}
use Rattle.tsp_requester.specs.declared.fault.AttachFault.{AttachFault}
use Rattle.tsp_requester.specs.declared.fault.AttachFault.TheVariants as rule
use Rattle.tsp_requester.specs.Attached.{attached, new_contents}

-- ---- facts in no order

-- These octets are a token (RFC 3161, 2.4.2). "It is defined as a ContentInfo and SHALL encapsulate a signed data
-- content type"; its eContentType is id-ct-TSTInfo, and its eContent "SHALL be the DER-encoded value of TSTInfo". It
-- may have any number of signers.
pub record IsToken (octets : List ℕ) (stamp : TstValue) : Type 0 where
  pub signed : SignedDataValue
  pub encodes : EncodesSignedData octets signed
  pub econtent_type : signed.encapsulated.content_type ≡ id_tst_info
  pub content : List ℕ
  pub present : signed.encapsulated.content ≡ Some content
  pub encodes_stamp : EncodesTst content stamp

-- the imprint is the digest of these octets, by an algorithm that is known; any is allowed
pub record IsImprintOf (imprint : ImprintValue) (stamped : List ℕ) : Type 0 where
  pub alg : Alg
  pub named : Names imprint.algorithm.oid imprint.algorithm.parameters alg
  pub digest : imprint.digest ≡ digest_of alg stamped

-- the file encodes a SignedData, and this is its signer of this number, counted from 1
pub record HasSigner (bytes : List ℕ) (number : ℕ) (v : SignedDataValue) (s : SignerValue) : Type 0 where
  pub encodes : EncodesSignedData bytes v
  pub signer : of_number v.signers number ≡ Some s

-- and this is the TSTInfo of the token, whose imprint is of the signature of that signer: a token in its unsigned
-- attributes stamps that (RFC 3161, appendix A)
pub record IsStamped (bytes : List ℕ) (number : ℕ) (token : List ℕ) (v : SignedDataValue) (s : SignerValue)
    (stamp : TstValue) : Type 0 where
  pub has : HasSigner bytes number v s
  pub is_token : IsToken token stamp
  pub imprint : IsImprintOf stamp.imprint s.signature

-- four length octets can state each new length
abbrev pub HaveLengths : SignedDataValue → (number : ℕ) → SignerValue → (token : List ℕ) → Type 0
HaveLengths v number s token = AllByRecursion HasLength (new_contents v number s token)

-- the token can be attached, and this is the SignedData with it
pub record Attaches (bytes : List ℕ) (number : ℕ) (token : List ℕ) (w : SignedDataValue) : Type 0 where
  pub value : SignedDataValue
  pub signer : SignerValue
  pub stamp : TstValue
  pub stamped : IsStamped bytes number token value signer stamp
  pub lengths : HaveLengths value number signer token
  pub is : w ≡ attached value number token

-- ---- the order of the rules: each refusal says that the demands of the rules before it are met, and its own isn't

pub record HasNoSigner (bytes : List ℕ) (number : ℕ) : Type 0 where
  pub value : SignedDataValue
  pub encodes : EncodesSignedData bytes value
  pub none : of_number value.signers number ≡ None

pub record HasNoToken (bytes : List ℕ) (number : ℕ) (token : List ℕ) : Type 0 where
  pub value : SignedDataValue
  pub signer : SignerValue
  pub has : HasSigner bytes number value signer
  pub none : (stamp : TstValue) → IsToken token stamp → ⊥

pub record StampsAnother (bytes : List ℕ) (number : ℕ) (token : List ℕ) : Type 0 where
  pub value : SignedDataValue
  pub signer : SignerValue
  pub has : HasSigner bytes number value signer
  pub stamp : TstValue
  pub is_token : IsToken token stamp
  pub differs : IsImprintOf stamp.imprint signer.signature → ⊥

pub record IsTooLong (bytes : List ℕ) (number : ℕ) (token : List ℕ) : Type 0 where
  pub value : SignedDataValue
  pub signer : SignerValue
  pub stamp : TstValue
  pub stamped : IsStamped bytes number token value signer stamp
  pub lengths : HaveLengths value number signer token → ⊥

-- the token isn't attached, and this is the first of A1 to A5 that fails
abbrev pub Refuses : (bytes : List ℕ) → (number : ℕ) → (token : List ℕ) → AttachFault → Type 0
Refuses bytes number token (rule.Malformed (cms.Malformed f)) = Faults (file content_info) bytes f
Refuses bytes number token (rule.Malformed cms.NotSignedData) = EncodesAnotherType bytes
Refuses bytes number token (rule.Malformed cms.OutOfMemory) = ⊥
Refuses bytes number token rule.NoSuchSigner = HasNoSigner bytes number
Refuses bytes number token rule.TokenMalformed = HasNoToken bytes number token
Refuses bytes number token rule.ImprintDiffers = StampsAnother bytes number token
Refuses bytes number token rule.TooLong = IsTooLong bytes number token
Refuses bytes number token rule.WriteFailed = ⊥

-- ---- what is returned, and what was written

-- all of these octets were written, or after a failure of the sink a beginning of them; nothing else is returned
abbrev pub Puts : List ℕ → Result (Unit {0}) AttachFault → (tells : Type 0) → (taken taken' : List ℕ)
    → (count count' : ℕ) → Type 0
Puts octets (Ok u) tells taken taken' count count' = (tells → taken' ≡ taken ++ octets) × (count' ≡ count)
Puts octets (Err rule.WriteFailed) tells taken taken' count count' = (tells → Stops taken taken' octets)
    × (count' ≡ raised count)
Puts octets (Err (rule.Malformed f)) tells taken taken' count count' = ⊥
Puts octets (Err rule.NoSuchSigner) tells taken taken' count count' = ⊥
Puts octets (Err rule.TokenMalformed) tells taken taken' count count' = ⊥
Puts octets (Err rule.ImprintDiffers) tells taken taken' count count' = ⊥
Puts octets (Err rule.TooLong) tells taken taken' count count' = ⊥

-- the new file was written, or a beginning of it
abbrev pub PutsAttached : (bytes : List ℕ) → (number : ℕ) → (token : List ℕ) → Result (Unit {0}) AttachFault
    → (tells : Type 0) → (taken taken' : List ℕ) → (count count' : ℕ) → Type 0
PutsAttached bytes number token r tells taken taken' count count' =
    (w : SignedDataValue) × Attaches bytes number token w
    × Puts (encoding (SignedContent w)) r tells taken taken' count count'

-- the first rule that fails is named, nothing was written and nothing failed
abbrev pub Leaves : (bytes : List ℕ) → (number : ℕ) → (token : List ℕ) → AttachFault → (tells : Type 0)
    → (taken taken' : List ℕ) → (count count' : ℕ) → Type 0
Leaves bytes number token f tells taken taken' count count' = Refuses bytes number token f
    × (tells → taken' ≡ taken) × (count' ≡ count)

abbrev pub IsAnswer : (bytes : List ℕ) → (number : ℕ) → (token : List ℕ) → Result (Unit {0}) AttachFault
    → (tells : Type 0) → (taken taken' : List ℕ) → (count count' : ℕ) → Type 0
IsAnswer bytes number token (Ok u) tells taken taken' count count' =
    PutsAttached bytes number token (Ok u) tells taken taken' count count'
IsAnswer bytes number token (Err rule.WriteFailed) tells taken taken' count count' =
    PutsAttached bytes number token (Err rule.WriteFailed) tells taken taken' count count'
IsAnswer bytes number token (Err (rule.Malformed f)) tells taken taken' count count' =
    Leaves bytes number token (rule.Malformed f) tells taken taken' count count'
IsAnswer bytes number token (Err rule.NoSuchSigner) tells taken taken' count count' =
    Leaves bytes number token rule.NoSuchSigner tells taken taken' count count'
IsAnswer bytes number token (Err rule.TokenMalformed) tells taken taken' count count' =
    Leaves bytes number token rule.TokenMalformed tells taken taken' count count'
IsAnswer bytes number token (Err rule.ImprintDiffers) tells taken taken' count count' =
    Leaves bytes number token rule.ImprintDiffers tells taken taken' count count'
IsAnswer bytes number token (Err rule.TooLong) tells taken taken' count count' =
    Leaves bytes number token rule.TooLong tells taken taken' count count'
