-- Signers and their encoding (RFC 5652, 5.3).
use Rattle.std.specs.Prelude.{◌≡◌, ℕ, true, List, [], ◌∷◌, ◌++◌, Option, IfSome}
use Rattle.der_core.specs.Element.{el, IsElement}
use Rattle.der_core.specs.Contents.{is_integer}
use Rattle.der_core.specs.Grammar.{is_of}
use Rattle.der_core.specs.Values.{HasLength, IsInteger, AlgorithmValue, algorithm_element, GoodAlgorithm}
use Rattle.cms_types.specs.AttributeValue.{AttributeValue, GoodSignedAttributes, GoodUnsignedAttributes}
use Rattle.cms_types.specs.AttributeValue.{optional_attributes}

-- SignerIdentifier ::= CHOICE { issuerAndSerialNumber IssuerAndSerialNumber,
--   subjectKeyIdentifier [0] SubjectKeyIdentifier }
-- IssuerAndSerialNumber ::= SEQUENCE { issuer Name, serialNumber CertificateSerialNumber } (10.2.4), where the name
-- is a whole element
pub data SidValue : Type 0 where
  IssuerAndSerial : (issuer serial : List ℕ) → SidValue
  KeyId : (id : List ℕ) → SidValue

abbrev pub sid_element : SidValue → List ℕ
sid_element (IssuerAndSerial issuer serial) = el 0x30 (issuer ++ el 0x02 serial)
sid_element (KeyId id) = el 0x80 id

abbrev pub IsName : List ℕ → Type 0
IsName x = (b : List ℕ) × IsElement 0x30 b × (x ≡ el 0x30 b)

abbrev pub GoodSid : SidValue → Type 0
GoodSid (IssuerAndSerial issuer serial) = IsName issuer × IsInteger serial × HasLength (issuer ++ el 0x02 serial)
GoodSid (KeyId id) = HasLength id

-- SignerInfo ::= SEQUENCE { version CMSVersion, sid SignerIdentifier, digestAlgorithm DigestAlgorithmIdentifier,
--   signedAttrs [0] IMPLICIT SignedAttributes OPTIONAL, signatureAlgorithm SignatureAlgorithmIdentifier,
--   signature SignatureValue, unsignedAttrs [1] IMPLICIT UnsignedAttributes OPTIONAL }, SignatureValue ::= OCTET STRING
pub record SignerValue : Type 0 where
  pub version : List ℕ
  pub sid : SidValue
  pub digest_algorithm : AlgorithmValue
  pub signed_attributes : Option (List AttributeValue)
  pub signature_algorithm : AlgorithmValue
  pub signature : List ℕ
  pub unsigned_attributes : Option (List AttributeValue)

abbrev pub signer_parts : SignerValue → List ℕ
signer_parts s = el 0x02 s.version
    ++ (sid_element s.sid
    ++ (algorithm_element s.digest_algorithm
    ++ (optional_attributes 0xa0 s.signed_attributes
    ++ (algorithm_element s.signature_algorithm
    ++ (el 0x04 s.signature
    ++ optional_attributes 0xa1 s.unsigned_attributes)))))

abbrev pub signer_element : SignerValue → List ℕ
signer_element s = el 0x30 (signer_parts s)

-- the contents of an INTEGER of one octet, one of these
abbrev pub IsVersion : List ℕ → List ℕ → Type 0
IsVersion versions b = (is_integer b ≡ true) × (is_of versions b ≡ true)

pub record GoodSigner (s : SignerValue) : Type 0 where
  pub version : IsVersion (1 ∷ 3 ∷ []) s.version
  pub sid : GoodSid s.sid
  pub digest_algorithm : GoodAlgorithm s.digest_algorithm
  pub signed_attributes : IfSome s.signed_attributes GoodSignedAttributes
  pub signature_algorithm : GoodAlgorithm s.signature_algorithm
  pub signature : HasLength s.signature
  pub unsigned_attributes : IfSome s.unsigned_attributes GoodUnsignedAttributes
  pub size : HasLength (signer_parts s)

-- the first of these signers has this digest algorithm, and those are the others
abbrev pub BeginsBy : List SignerValue → AlgorithmValue → List SignerValue → Type 0
BeginsBy signers algorithm others = (s : SignerValue) × (signers ≡ s ∷ others) × (algorithm ≡ s.digest_algorithm)
