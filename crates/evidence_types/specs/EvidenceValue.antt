-- Evidence records and their encoding (RFC 4998, 3.1 and 5.1): the value that the octets of a record encode.
use Rattle.std.specs.Prelude.{◌≡◌, ◌≢◌, ℕ, List, [], ◌∷◌, ◌++◌, Option, Some, None, IfSome}
use Rattle.std.specs.List.{flat_map, AllByRecursion}
use Rattle.der_core.specs.Element.{el}
use Rattle.der_core.specs.Values.{HasLength, IsOid, IsOpaque, optional_whole, AlgorithmValue, GoodAlgorithm}
use Rattle.cms_types.specs.AttributeValue.{AttributeValue, GoodUnsignedAttributes, optional_attributes}
use Rattle.cms_types.specs.SignedDataValue.{algorithms_parts}
use Rattle.evidence_types.specs.StampValue.{StampValue, stamp_element, GoodStamp}

-- ArchiveTimeStampChain ::= SEQUENCE OF ArchiveTimeStamp (5.1)
abbrev pub chain_parts : List StampValue → List ℕ
chain_parts stamps = flat_map stamp_element stamps

abbrev pub chain_element : List StampValue → List ℕ
chain_element stamps = el 0x30 (chain_parts stamps)

-- at least one time-stamp, since a chain of none shows nothing
pub record GoodChain (stamps : List StampValue) : Type 0 where
  pub each : AllByRecursion GoodStamp stamps
  pub some : stamps ≢ []
  pub size : HasLength (chain_parts stamps)

-- ArchiveTimeStampSequence ::= SEQUENCE OF ArchiveTimeStampChain (5.1)
abbrev pub chains_parts : List (List StampValue) → List ℕ
chains_parts chains = flat_map chain_element chains

-- at least one chain
pub record GoodChains (chains : List (List StampValue)) : Type 0 where
  pub each : AllByRecursion GoodChain chains
  pub some : chains ≢ []
  pub size : HasLength (chains_parts chains)

-- EncryptionInfo ::= SEQUENCE { encryptionInfoType OBJECT IDENTIFIER,
--   encryptionInfoValue ANY DEFINED BY encryptionInfoType } (3.1)
-- The value is a whole element, and may be absent.
pub record EncryptionValue : Type 0 where
  pub id : List ℕ
  pub value : Option (List ℕ)

abbrev pub encryption_parts : EncryptionValue → List ℕ
encryption_parts e = el 0x06 e.id ++ optional_whole e.value

pub record GoodEncryption (e : EncryptionValue) : Type 0 where
  pub id : IsOid e.id
  pub value : IfSome e.value IsOpaque
  pub size : HasLength (encryption_parts e)

-- if present, in an element with this identifier
abbrev pub optional_encryption : ℕ → Option EncryptionValue → List ℕ
optional_encryption t None = []
optional_encryption t (Some e) = el t (encryption_parts e)

-- EvidenceRecord ::= SEQUENCE { version INTEGER { v1(1) }, digestAlgorithms SEQUENCE OF AlgorithmIdentifier,
--   cryptoInfos [0] CryptoInfos OPTIONAL, encryptionInfo [1] EncryptionInfo OPTIONAL,
--   archiveTimeStampSequence ArchiveTimeStampSequence } (3.1)
-- CryptoInfos ::= SEQUENCE SIZE (1..MAX) OF Attribute
-- The attributes of cryptoInfos, and the values of each, may have any order.
pub record EvidenceValue : Type 0 where
  pub algorithms : List AlgorithmValue
  pub crypto_infos : Option (List AttributeValue)
  pub encryption : Option EncryptionValue
  pub chains : List (List StampValue)

abbrev pub evidence_parts : EvidenceValue → List ℕ
evidence_parts v = el 0x02 (1 ∷ [])
    ++ (el 0x30 (algorithms_parts v.algorithms)
    ++ (optional_attributes 0xa0 v.crypto_infos
    ++ (optional_encryption 0xa1 v.encryption
    ++ el 0x30 (chains_parts v.chains))))

abbrev pub encoding : EvidenceValue → List ℕ
encoding v = el 0x30 (evidence_parts v)

pub record GoodEvidence (v : EvidenceValue) : Type 0 where
  pub algorithms : AllByRecursion GoodAlgorithm v.algorithms
  pub algorithms_size : HasLength (algorithms_parts v.algorithms)
  pub crypto_infos : IfSome v.crypto_infos GoodUnsignedAttributes
  pub encryption : IfSome v.encryption GoodEncryption
  pub chains : GoodChains v.chains
  pub size : HasLength (evidence_parts v)

-- all of the octets encode the good record
abbrev pub EncodesEvidence : List ℕ → EvidenceValue → Type 0
EncodesEvidence bytes v = (bytes ≡ encoding v) × GoodEvidence v
