-- Certificates and their encoding (RFC 5280, 4.1): the value that the octets of a certificate encode.
use Rattle.std.specs.Prelude.{◌≡◌, ℕ, true, List, [], ◌∷◌, ◌++◌, Option, Some, None, IfSome}
use Rattle.der_core.specs.Element.{el, IsElement}
use Rattle.der_core.specs.Contents.{is_integer, is_bits}
use Rattle.der_core.specs.Grammar.{is_of}
use Rattle.der_core.specs.Values.{optional, HasLength, IsInteger, AlgorithmValue, algorithm_element, GoodAlgorithm}
use Rattle.cert_types.specs.ExtensionValue.{ExtensionValue, extensions_parts}
use Rattle.cert_types.specs.DistinctExtensions.{GoodDistinct}
use Rattle.der_time.specs.TimeValue.{TimeValue, time_element, GoodTime}

-- Validity ::= SEQUENCE { notBefore Time, notAfter Time }
pub record ValidityValue : Type 0 where
  pub from : TimeValue
  pub until : TimeValue

-- TBSCertificate ::= SEQUENCE { version [0] EXPLICIT Version DEFAULT v1, serialNumber CertificateSerialNumber,
--   signature AlgorithmIdentifier, issuer Name, validity Validity, subject Name,
--   subjectPublicKeyInfo SubjectPublicKeyInfo,
--   issuerUniqueID [1] IMPLICIT UniqueIdentifier OPTIONAL, subjectUniqueID [2] IMPLICIT UniqueIdentifier OPTIONAL,
--   extensions [3] EXPLICIT Extensions OPTIONAL }
-- The value has names and the key as whole elements, and a version that is present and unique identifiers as their
-- contents.
pub record TbsCertificateValue : Type 0 where
  pub version : Option (List ℕ)
  pub serial : List ℕ
  pub algorithm : AlgorithmValue
  pub issuer : List ℕ
  pub validity : ValidityValue
  pub subject : List ℕ
  pub key : List ℕ
  pub issuer_id : Option (List ℕ)
  pub subject_id : Option (List ℕ)
  pub extensions : Option (List ExtensionValue)

-- Certificate ::= SEQUENCE { tbsCertificate TBSCertificate, signatureAlgorithm AlgorithmIdentifier,
--   signatureValue BIT STRING }
pub record CertificateValue : Type 0 where
  pub tbs : TbsCertificateValue
  pub algorithm : AlgorithmValue
  pub signature : List ℕ

abbrev pub version_part : Option (List ℕ) → List ℕ
version_part None = []
version_part (Some b) = el 0xa0 (el 0x02 b)

abbrev pub validity_parts : ValidityValue → List ℕ
validity_parts v = time_element v.from ++ time_element v.until

abbrev pub extensions_part : Option (List ExtensionValue) → List ℕ
extensions_part None = []
extensions_part (Some es) = el 0xa3 (el 0x30 (extensions_parts es))

abbrev pub tbs_parts : TbsCertificateValue → List ℕ
tbs_parts s = version_part s.version
    ++ (el 0x02 s.serial
    ++ (algorithm_element s.algorithm
    ++ (s.issuer
    ++ (el 0x30 (validity_parts s.validity)
    ++ (s.subject
    ++ (s.key
    ++ (optional 0x81 s.issuer_id
    ++ (optional 0x82 s.subject_id
    ++ extensions_part s.extensions))))))))

abbrev pub certificate_parts : CertificateValue → List ℕ
certificate_parts v = el 0x30 (tbs_parts v.tbs) ++ (algorithm_element v.algorithm ++ el 0x03 v.signature)

abbrev pub encoding : CertificateValue → List ℕ
encoding v = el 0x30 (certificate_parts v)

-- a whole SEQUENCE
abbrev pub IsSequence : List ℕ → Type 0
IsSequence x = (b : List ℕ) × IsElement 0x30 b × (x ≡ el 0x30 b)

-- the contents of a BIT STRING
abbrev pub IsBits : List ℕ → Type 0
IsBits b = (is_bits b ≡ true) × HasLength b

-- a version that is present: 0, 1 or 2
abbrev pub IsVersion : List ℕ → Type 0
IsVersion b = (is_integer b ≡ true) × (is_of (0 ∷ 1 ∷ 2 ∷ []) b ≡ true)

pub record GoodValidity (v : ValidityValue) : Type 0 where
  pub from : GoodTime v.from
  pub until : GoodTime v.until
  pub size : HasLength (validity_parts v)

pub record GoodTbsCertificate (s : TbsCertificateValue) : Type 0 where
  pub version : IfSome s.version IsVersion
  pub serial : IsInteger s.serial
  pub algorithm : GoodAlgorithm s.algorithm
  pub issuer : IsSequence s.issuer
  pub validity : GoodValidity s.validity
  pub subject : IsSequence s.subject
  pub key : IsSequence s.key
  pub issuer_id : IfSome s.issuer_id IsBits
  pub subject_id : IfSome s.subject_id IsBits
  pub extensions : IfSome s.extensions (λ es. GoodDistinct es × HasLength (extensions_parts es)
      × HasLength (el 0x30 (extensions_parts es)))
  pub size : HasLength (tbs_parts s)

pub record GoodCertificate (v : CertificateValue) : Type 0 where
  pub tbs : GoodTbsCertificate v.tbs
  pub algorithm : GoodAlgorithm v.algorithm
  pub signature : IsBits v.signature
  pub size : HasLength (certificate_parts v)

-- all of the octets encode the good certificate
abbrev pub EncodesCertificate : List ℕ → CertificateValue → Type 0
EncodesCertificate bytes v = (bytes ≡ encoding v) × GoodCertificate v
