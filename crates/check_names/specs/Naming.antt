-- Which certificate is a signer's: by the signer's identifier (RFC 5652, 5.3), and by its signing-certificate
-- attributes (RFC 2634, 5.4; RFC 5035, 2; time-stamp tokens may have either, RFC 5816, 2.2.1).
use Rattle.std.specs.Prelude.{◌≡◌, ◌≢◌, ℕ, ◌⊎◌, List, [], ◌∷◌, Option, Some, None, IfSome}
use Rattle.der_core.specs.Element.{el}
use Rattle.der_core.specs.Values.{AlgorithmValue}
use Rattle.cert_types.specs.CertificateValue.{CertificateValue, encoding}
use Rattle.cert_types.specs.Purposes.{HasKeyId}
use Rattle.digests.specs.Algorithms.{Names}
use Rattle.digests.specs.Messages.{digest_of}
use Rattle.digests.specs.declared.algorithm.Alg.{Alg}
use Rattle.digests.specs.declared.algorithm.Alg.TheVariants.{Sha1, Sha256}
use Rattle.cms_types.specs.AttributeValue.{AttributeValue}
use Rattle.cms_types.specs.SignerValue.{SidValue, IssuerAndSerial, KeyId}
use Rattle.ess_types.specs.SigningCertificateValue.{IssuerSerialValue, CertIdValue, SigningCertificateValue}
use Rattle.ess_types.specs.SigningCertificateValue.{EncodesSigningCertificate, EncodesSigningCertificateV2}
use Rattle.check_fit.specs.Attributes.{single_value, occurrences}

-- id-aa-signingCertificate, 1.2.840.113549.1.9.16.2.12 (RFC 2634, 5.4), and id-aa-signingCertificateV2,
-- 1.2.840.113549.1.9.16.2.47 (RFC 5035, 3)
abbrev pub id_signing_certificate : List ℕ
id_signing_certificate = 0x2a ∷ 0x86 ∷ 0x48 ∷ 0x86 ∷ 0xf7 ∷ 0x0d ∷ 0x01 ∷ 0x09 ∷ 0x10 ∷ 0x02 ∷ 0x0c ∷ []

abbrev pub id_signing_certificate_v2 : List ℕ
id_signing_certificate_v2 = 0x2a ∷ 0x86 ∷ 0x48 ∷ 0x86 ∷ 0xf7 ∷ 0x0d ∷ 0x01 ∷ 0x09 ∷ 0x10 ∷ 0x02 ∷ 0x2f ∷ []

-- ---- by the signer's identifier

-- the certificate has the issuer, as a whole element, and the serial number; or it has the key identifier
abbrev pub Matches : SidValue → CertificateValue → Type 0
Matches (IssuerAndSerial issuer serial) c = (c.tbs.issuer ≡ issuer) × (c.tbs.serial ≡ serial)
Matches (KeyId id) c = HasKeyId c id

-- ---- by its attributes: facts in no order

-- there is one general name, the directoryName, [4] (RFC 5280, 4.2.1.6), and it is the certificate's issuer; the serial
-- number is the certificate's (RFC 5035, 4)
pub record IsIssuerOf (c : CertificateValue) (i : IssuerSerialValue) : Type 0 where
  pub name : i.names ≡ el 0xa4 c.tbs.issuer ∷ []
  pub serial : i.serial ≡ c.tbs.serial

-- the identifier names the certificate: its hash is that of the whole certificate; and if it has issuer and serial
-- number, they are the certificate's
pub record NamesBy (alg : Alg) (i : CertIdValue) (c : CertificateValue) : Type 0 where
  pub hash : i.hash ≡ digest_of alg (encoding c)
  pub issuer : IfSome i.issuer_serial (IsIssuerOf c)

-- the hash algorithm of an identifier of version 2: SHA-256 if the identifier states none, else the one that it names.
-- If that is unknown, there is no such algorithm
abbrev pub HashedBy : Option AlgorithmValue → Alg → Type 0
HashedBy None alg = alg ≡ Sha256
HashedBy (Some a) alg = Names a.oid a.parameters alg

-- the attribute of this type occurs once with one value, which encodes a signing certificate of this version, and this
-- is the first of its identifiers
pub record FirstId (attributes : List AttributeValue) (id : List ℕ)
    (Encodes : List ℕ → SigningCertificateValue → Type 0) (first : CertIdValue) : Type 0 where
  pub value : List ℕ
  pub once : single_value attributes id ≡ Some value
  pub certificate : SigningCertificateValue
  pub encodes : Encodes value certificate
  pub others : List CertIdValue
  pub is_first : certificate.ids ≡ first ∷ others

-- the first identifier of the attribute of version 1 names the certificate, by SHA-1 (RFC 2634, 5.4)
pub record NamesInV1 (attributes : List AttributeValue) (c : CertificateValue) : Type 0 where
  pub id : CertIdValue
  pub first : FirstId attributes id_signing_certificate EncodesSigningCertificate id
  pub names : NamesBy Sha1 id c

-- and the first identifier of the attribute of version 2 names it, by its hash algorithm (RFC 5035, 4)
pub record NamesInV2 (attributes : List AttributeValue) (c : CertificateValue) : Type 0 where
  pub id : CertIdValue
  pub first : FirstId attributes id_signing_certificate_v2 EncodesSigningCertificateV2 id
  pub alg : Alg
  pub hashed : HashedBy id.algorithm alg
  pub names : NamesBy alg id c

-- an attribute of this type is present
abbrev pub Occurs : List AttributeValue → List ℕ → Type 0
Occurs attributes id = occurrences attributes id ≢ []

-- each of the two types that is present names the certificate
pub record NamesIfAny (attributes : List AttributeValue) (c : CertificateValue) : Type 0 where
  pub v1 : Occurs attributes id_signing_certificate → NamesInV1 attributes c
  pub v2 : Occurs attributes id_signing_certificate_v2 → NamesInV2 attributes c

-- the same, and one of them is present, as is required in time-stamp tokens (RFC 3161, 2.4.2; RFC 5816, 2.2.1)
pub record MustName (attributes : List AttributeValue) (c : CertificateValue) : Type 0 where
  pub names : NamesIfAny attributes c
  pub some : Occurs attributes id_signing_certificate ⊎ Occurs attributes id_signing_certificate_v2
