-- Signing-certificate attributes and their encoding (RFC 2634, 5.4; RFC 5035, 3 and 4; time-stamp tokens may have
-- either, RFC 5816, 2.2.1). An identifier of version 1 is encoded like one of version 2 that names no algorithm, so one
-- record serves for both.
use Rattle.std.specs.Prelude.{◌≡◌, ℕ, List, [], ◌∷◌, ◌++◌, Option, Some, None, IfSome}
use Rattle.std.specs.List.{flat_map, AllByRecursion}
use Rattle.der_core.specs.Element.{el}
use Rattle.der_core.specs.Values.{optional, HasLength, IsInteger, IsOpaque, AlgorithmValue, algorithm_element}
use Rattle.der_core.specs.Values.{GoodAlgorithm}

-- IssuerSerial ::= SEQUENCE { issuer GeneralNames, serialNumber CertificateSerialNumber }
-- GeneralNames ::= SEQUENCE SIZE (1..MAX) OF GeneralName
-- Each name is a whole element, and there may be none.
pub record IssuerSerialValue : Type 0 where
  pub names : List (List ℕ)
  pub serial : List ℕ

abbrev pub names_parts : List (List ℕ) → List ℕ
names_parts names = flat_map (λ x. x) names

abbrev pub issuer_serial_parts : IssuerSerialValue → List ℕ
issuer_serial_parts i = el 0x30 (names_parts i.names) ++ el 0x02 i.serial

abbrev pub optional_issuer_serial : Option IssuerSerialValue → List ℕ
optional_issuer_serial None = []
optional_issuer_serial (Some i) = el 0x30 (issuer_serial_parts i)

pub record GoodIssuerSerial (i : IssuerSerialValue) : Type 0 where
  pub names : AllByRecursion IsOpaque i.names
  pub list : HasLength (names_parts i.names)
  pub serial : IsInteger i.serial
  pub size : HasLength (issuer_serial_parts i)

-- ESSCertID ::= SEQUENCE { certHash Hash, issuerSerial IssuerSerial OPTIONAL }
-- ESSCertIDv2 ::= SEQUENCE { hashAlgorithm AlgorithmIdentifier DEFAULT {algorithm id-sha256}, certHash Hash,
--   issuerSerial IssuerSerial OPTIONAL }
-- Hash ::= OCTET STRING
-- An algorithm that is present is kept, even if it is the default.
pub record CertIdValue : Type 0 where
  pub algorithm : Option AlgorithmValue
  pub hash : List ℕ
  pub issuer_serial : Option IssuerSerialValue

abbrev pub optional_algorithm : Option AlgorithmValue → List ℕ
optional_algorithm None = []
optional_algorithm (Some a) = algorithm_element a

abbrev pub cert_id_parts : CertIdValue → List ℕ
cert_id_parts i = optional_algorithm i.algorithm ++ (el 0x04 i.hash ++ optional_issuer_serial i.issuer_serial)

pub record GoodCertId (i : CertIdValue) : Type 0 where
  pub algorithm : IfSome i.algorithm GoodAlgorithm
  pub hash : HasLength i.hash
  pub issuer_serial : IfSome i.issuer_serial GoodIssuerSerial
  pub size : HasLength (cert_id_parts i)

-- SigningCertificate ::= SEQUENCE { certs SEQUENCE OF ESSCertID, policies SEQUENCE OF PolicyInformation OPTIONAL }
-- SigningCertificateV2 ::= SEQUENCE { certs SEQUENCE OF ESSCertIDv2, policies SEQUENCE OF PolicyInformation OPTIONAL }
-- The policies are kept as the contents of their element.
pub record SigningCertificateValue : Type 0 where
  pub ids : List CertIdValue
  pub policies : Option (List ℕ)

abbrev pub ids_parts : List CertIdValue → List ℕ
ids_parts ids = flat_map (λ i. el 0x30 (cert_id_parts i)) ids

abbrev pub signing_certificate_parts : SigningCertificateValue → List ℕ
signing_certificate_parts v = el 0x30 (ids_parts v.ids) ++ optional 0x30 v.policies

abbrev pub encoding : SigningCertificateValue → List ℕ
encoding v = el 0x30 (signing_certificate_parts v)

pub record GoodSigningCertificate (v : SigningCertificateValue) : Type 0 where
  pub ids : AllByRecursion GoodCertId v.ids
  pub list : HasLength (ids_parts v.ids)
  pub policies : IfSome v.policies HasLength
  pub size : HasLength (signing_certificate_parts v)

-- all of the octets encode the good signing certificate of version 2
abbrev pub EncodesSigningCertificateV2 : List ℕ → SigningCertificateValue → Type 0
EncodesSigningCertificateV2 bytes v = (bytes ≡ encoding v) × GoodSigningCertificate v

abbrev pub NamesNoAlgorithm : CertIdValue → Type 0
NamesNoAlgorithm i = i.algorithm ≡ None

-- they encode the good signing certificate of version 1, whose identifiers name no algorithm
abbrev pub EncodesSigningCertificate : List ℕ → SigningCertificateValue → Type 0
EncodesSigningCertificate bytes v = EncodesSigningCertificateV2 bytes v × AllByRecursion NamesNoAlgorithm v.ids

-- the first identifier, which is that of the signer's certificate; the others are of certificates in its chain
abbrev pub first_id : List CertIdValue → Option CertIdValue
first_id [] = None
first_id (i ∷ is) = Some i
