-- Which certificates an attribute of version 2 names that has a hash by SHA-256 and nothing else, as the worked rows
-- have it.
use Rattle.std.proofs.Common.{◌≡◌, ℕ, List, [], ◌∷◌, Option, Some, None, refl, sym, ap, subst, ◌∙◌}
use Rattle.der_core.specs.Element.{el}
use Rattle.der_core.specs.Values.{HasLength}
use Rattle.cert_types.specs.CertificateValue.{CertificateValue, encoding}
use Rattle.digests.specs.Messages.{digest_of}
use Rattle.digests.specs.declared.algorithm.Alg.{Alg}
use Rattle.digests.specs.declared.algorithm.Alg.TheVariants.{Sha256}
use Rattle.cms_types.specs.AttributeValue.{AttributeValue}
use Rattle.check_fit.specs.Attributes.{single_value}
use Rattle.ess_types.specs.SigningCertificateValue.{CertIdValue, SigningCertificateValue, EncodesSigningCertificateV2}
use Rattle.ess_types.specs.SigningCertificateValue.{cert_id_parts, ids_parts, signing_certificate_parts}
use Rattle.ess_types.specs.SigningCertificateValue as signing
use Rattle.ess_types.proofs.SigningCertificateReaders.{signing_unique}
use Rattle.ess_types.proofs.Spelled.{spelled}
use Rattle.check_names.specs.Naming.{id_signing_certificate_v2, HashedBy, NamesInV2}

abbrev pub id_of : List ℕ → CertIdValue
id_of hash = record { algorithm = None; hash = hash; issuer_serial = None }

abbrev pub certificate_of : List ℕ → SigningCertificateValue
certificate_of hash = record { ids = id_of hash ∷ []; policies = None }

abbrev pub octets_of : List ℕ → List ℕ
octets_of hash = el 0x30 (el 0x30 (el 0x30 (el 0x04 hash)))

abbrev pub Encoded : List ℕ → Type 0
Encoded hash = EncodesSigningCertificateV2 (octets_of hash) (certificate_of hash)

pub encoded : (hash : List ℕ) → octets_of hash ≡ signing.encoding (certificate_of hash) → HasLength hash
    → HasLength (cert_id_parts (id_of hash)) → HasLength (ids_parts (id_of hash ∷ []))
    → HasLength (signing_certificate_parts (certificate_of hash)) → Encoded hash
encoded hash is small id list size = spelled (octets_of hash) (certificate_of hash) is
    (record { algorithm = tt; hash = small; issuer_serial = tt; size = id }, tt) list tt size

pub names_v2 : (attributes : List AttributeValue) (hash : List ℕ) (c : CertificateValue)
    → single_value attributes id_signing_certificate_v2 ≡ Some (octets_of hash) → Encoded hash
    → digest_of Sha256 (encoding c) ≡ hash
    → NamesInV2 attributes c
names_v2 attributes hash c once encodes digest = record {
  id = id_of hash;
  first = record {
    value = octets_of hash;
    once = once;
    certificate = certificate_of hash;
    encodes = encodes;
    others = [];
    is_first = refl;
  };
  alg = Sha256;
  hashed = refl;
  names = record { hash = sym digest; issuer = tt };
}

some_value : (a b : List ℕ) (o : Option (List ℕ)) → o ≡ Some a → o ≡ Some b → a ≡ b
some_value a b o e h = let z = sym e ∙ h in cc

one_id : (i j : CertIdValue) (others : List CertIdValue) (ids : List CertIdValue) → ids ≡ i ∷ others → ids ≡ j ∷ []
    → i ≡ j
one_id i j others ids e h = let z = sym e ∙ h in cc

-- it names no certificate of which the digest is another
pub other_hash : (attributes : List AttributeValue) (hash : List ℕ) (c : CertificateValue)
    → single_value attributes id_signing_certificate_v2 ≡ Some (octets_of hash) → Encoded hash
    → (hash ≡ digest_of Sha256 (encoding c) → ⊥)
    → NamesInV2 attributes c → ⊥
other_hash attributes hash c once encodes differs n =
    let value : n.first.value ≡ octets_of hash = some_value n.first.value (octets_of hash)
    (single_value attributes id_signing_certificate_v2) n.first.once once in
    let same : n.first.certificate ≡ certificate_of hash =
    signing_unique (octets_of hash) n.first.certificate (certificate_of hash)
    (subst (λ (b : List ℕ). EncodesSigningCertificateV2 b n.first.certificate) value n.first.encodes) encodes in
    let first : n.id ≡ id_of hash = one_id n.id (id_of hash) n.first.others n.first.certificate.ids n.first.is_first
    (ap (λ (v : SigningCertificateValue). v.ids) same) in
    let alg : n.alg ≡ Sha256 = subst (λ (i : CertIdValue). HashedBy i.algorithm n.alg) first n.hashed in
    let by : hash ≡ digest_of n.alg (encoding c) =
    subst (λ (i : CertIdValue). i.hash ≡ digest_of n.alg (encoding c)) first n.names.hash in
    differs (by ∙ ap (λ (a : Alg). digest_of a (encoding c)) alg)
