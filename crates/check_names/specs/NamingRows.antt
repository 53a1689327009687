-- Worked rows: which certificate identifiers and attributes name. The certificate is that of an authority, whose octets
-- are among `der_core`'s vectors. The hashes are those that coreutils print.
use Rattle.std.specs.Prelude.{ℕ, List, [], ◌∷◌, Some, None, codes}
use Rattle.der_core.specs.declared.flag.Flag.TheVariants.{True}
use Rattle.der_core.specs.Element.{el}
use Rattle.der_core.specs.Hex.{hex}
use Rattle.der_grammar.specs.Table.{id_ext_key_usage}
use Rattle.der_core.specs.Values.{AlgorithmValue}
use Rattle.der_grammar.specs.Vectors.{digest_of_abc, signer_name, authority_name, authority_key, certificate_named}
use Rattle.der_time.specs.TimeValue.{Utc}
use Rattle.cert_types.specs.CertificateValue.{CertificateValue}
use Rattle.cms_types.specs.AttributeValue.{AttributeValue}
use Rattle.cms_types.specs.SignerValue.{IssuerAndSerial, KeyId}
use Rattle.ess_types.specs.SigningCertificateValue.{IssuerSerialValue}
use Rattle.check_names.specs.Naming.{id_signing_certificate, id_signing_certificate_v2, Matches, IsIssuerOf, NamesIfAny}
use Rattle.check_names.specs.Naming.{MustName}

abbrev pub made_up_algorithm : AlgorithmValue
made_up_algorithm = record { oid = hex "883701"; parameters = None }

-- the certificate of the authority, with the serial number 7
abbrev pub of_authority : CertificateValue
of_authority = record {
  tbs = record {
    version = Some (2 ∷ []);
    serial = 7 ∷ [];
    algorithm = made_up_algorithm;
    issuer = authority_name;
    validity = record { from = Utc (codes "240101000000Z"); until = Utc (codes "240131235959Z") };
    subject = authority_name;
    key = authority_key;
    issuer_id = None;
    subject_id = None;
    extensions = Some (record { id = id_ext_key_usage; critical = True; value = hex "300a06082b06010505070308" } ∷ []);
  };
  algorithm = made_up_algorithm;
  signature = 0 ∷ 0 ∷ [];
}

-- its digest by SHA-256
abbrev pub digest_of_certificate : List ℕ
digest_of_certificate = hex "b5bda2dd49f9ac5c960f22fe79a6cbef1d5b7e0e88c7890e416bb657f4dbb8e1"

abbrev pub attribute : List ℕ → List ℕ → AttributeValue
attribute id value = record { id = id; values = value ∷ [] }

-- the attribute of version 2 with this hash, by SHA-256
abbrev pub named_by : List ℕ → AttributeValue
named_by hash = attribute id_signing_certificate_v2 (el 0x30 (el 0x30 (el 0x30 (el 0x04 hash))))

-- that of version 1 with the certificate's digest by SHA-1
abbrev pub named_in_v1 : AttributeValue
named_in_v1 = attribute id_signing_certificate certificate_named

abbrev pub stated : List (List ℕ) → List ℕ → IssuerSerialValue
stated names serial = record { names = names; serial = serial }

pub record NamingRows : Type 0 where
  pub version_1_alone : MustName (named_in_v1 ∷ []) of_authority
  pub version_2_alone : MustName (named_by digest_of_certificate ∷ []) of_authority
  pub in_both : MustName (named_in_v1 ∷ named_by digest_of_certificate ∷ []) of_authority
  -- neither attribute is present, which is enough for a signer and not for a token
  pub in_neither : NamesIfAny [] of_authority
  pub neither : MustName [] of_authority → ⊥
  -- one names the certificate, and the other has another hash; an attribute occurs twice
  pub other_differs : NamesIfAny (named_in_v1 ∷ named_by digest_of_abc ∷ []) of_authority → ⊥
  pub twice : NamesIfAny (named_in_v1 ∷ named_in_v1 ∷ []) of_authority → ⊥

pub record IssuerRows : Type 0 where
  pub issuer : IsIssuerOf of_authority (stated (el 0xa4 authority_name ∷ []) (7 ∷ []))
  -- another serial number; another name; another tag; no name; two
  pub other_serial : IsIssuerOf of_authority (stated (el 0xa4 authority_name ∷ []) (8 ∷ [])) → ⊥
  pub other_name : IsIssuerOf of_authority (stated (el 0xa4 signer_name ∷ []) (7 ∷ [])) → ⊥
  pub other_tag : IsIssuerOf of_authority (stated (el 0xa5 authority_name ∷ []) (7 ∷ [])) → ⊥
  pub no_name : IsIssuerOf of_authority (stated [] (7 ∷ [])) → ⊥
  pub two_names : IsIssuerOf of_authority (stated (el 0xa4 authority_name ∷ el 0xa4 authority_name ∷ []) (7 ∷ [])) → ⊥

pub record MatchingRows : Type 0 where
  pub meant : Matches (IssuerAndSerial authority_name (7 ∷ [])) of_authority
  -- another serial number; another issuer; a key identifier, which the certificate doesn't have
  pub serial : Matches (IssuerAndSerial authority_name (8 ∷ [])) of_authority → ⊥
  pub name : Matches (IssuerAndSerial signer_name (7 ∷ [])) of_authority → ⊥
  pub key : (id : List ℕ) → Matches (KeyId id) of_authority → ⊥
