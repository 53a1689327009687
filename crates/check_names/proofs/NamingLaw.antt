-- What comparisons of octets prove about a certificate.
use Rattle.std.proofs.Common.{◌≡◌, ℕ, ◌<◌, ◌≤◌, ◌^◌, Bool, true, false, List, [], ◌∷◌, ◌++◌, length, Option, Some, None}
use Rattle.std.proofs.Common.{refl, sym, ap, subst, ◌∙◌, inl, inr}
use Rattle.std.proofs.Common.{arith}
use Rattle.std.specs.Prelude.{◌↔◌, ◌⊎◌, IsTrue, IfSome, is_none}
use Rattle.std.proofs.lemmas.List.{length-append}
use Rattle.der_core.specs.Element.{el}
use Rattle.der_core.specs.Lists.{is_same, only}
use Rattle.der_core.specs.Values.{AlgorithmValue, algorithm_element, optional}
use Rattle.der_core.proofs.Encoded.{same}
use Rattle.cert_types.specs.CertificateValue.{CertificateValue, GoodCertificate, encoding, version_part, validity_parts}
use Rattle.cert_types.specs.CertificateValue.{extensions_part}
use Rattle.cert_types.specs.Purposes.{HasKeyId}
use Rattle.der_core.proofs.Refuted.{and_true}
use Rattle.digests.specs.Algorithms.{IsPlain, Names, contents_of}
use Rattle.digests.proofs.Named.{named_is}
use Rattle.digests.specs.Messages.{digest_of}
use Rattle.digests.specs.declared.algorithm.Alg.{Alg}
use Rattle.digests.specs.declared.algorithm.Alg.TheVariants.{Sha1, Sha256}
use Rattle.cms_types.specs.AttributeValue.{AttributeValue}
use Rattle.cms_types.specs.SignerValue.{IssuerAndSerial, KeyId}
use Rattle.ess_types.specs.HashAlgorithms.{is_default, IsHashAlgorithm}
use Rattle.ess_types.specs.declared.cert_id.HashAlgorithm.{HashAlgorithm}
use Rattle.ess_types.specs.declared.cert_id.HashAlgorithm.TheVariants.{Absent, SpelledDefault, Other}
use Rattle.ess_types.specs.SigningCertificateValue.{IssuerSerialValue, CertIdValue, EncodesSigningCertificate}
use Rattle.ess_types.specs.SigningCertificateValue.{EncodesSigningCertificateV2}
use Rattle.check_fit.specs.Attributes.{is_element_of}
use Rattle.check_fit.proofs.FitLaw.{element_is, element_again}
use Rattle.check_names.specs.Naming.{Matches, IsIssuerOf, NamesBy, HashedBy, FirstId, NamesInV1, NamesInV2}
use Rattle.check_names.specs.Naming.{id_signing_certificate, id_signing_certificate_v2}
use Rattle.der_core.proofs.SameOctets.{is_then_same}

never_both : (b : Bool) → b ≡ false → b ≡ true → ⊥
never_both b bad good = let z = sym bad ∙ good in cc

-- ---- the signer's identifier

pub by_issuer : (c : CertificateValue) (issuer serial : List ℕ) (b r : Bool) → IsTrue b ↔ (c.tbs.issuer ≡ issuer)
    → b ≡ true
    → IsTrue r ↔ (c.tbs.serial ≡ serial) → IsTrue r ↔ Matches (IssuerAndSerial issuer serial) c
by_issuer c issuer serial b r issuers good serials = (λ h. (issuers.0 good, serials.0 h), λ m. serials.1 m.1)

pub another_issuer : (c : CertificateValue) (issuer serial : List ℕ) (b : Bool) → IsTrue b ↔ (c.tbs.issuer ≡ issuer)
    → b ≡ false
    → IsTrue b ↔ Matches (IssuerAndSerial issuer serial) c
another_issuer c issuer serial b issuers bad = (λ h. absurd (never_both b bad h), λ m. issuers.1 m.0)

some_octets : (k k' : List ℕ) → Some k ≡ Some k' → k ≡ k'
some_octets k k' e = cc

pub by_key : (c : CertificateValue) (id k : List ℕ) (r : Bool) → HasKeyId c k
    → ((k' : List ℕ) → HasKeyId c k' → Some k ≡ Some k') → r ≡ is_same k id
    → IsTrue r ↔ Matches (KeyId id) c
by_key c id k r has alone at = (
  (λ h. subst (λ (x : List ℕ). HasKeyId c x) (same k id (sym at ∙ h)) has),
  (λ m. at ∙ is_then_same k id (some_octets k id (alone id m))),
)

-- ---- issuer and serial number

-- the fourth of five lists is not longer than all of them joined
fourth : (a b c d e : List ℕ) → length d ≤ length (a ++ (b ++ (c ++ (d ++ e))))
fourth a b c d e = omega (
  arith,
  length-append a (b ++ (c ++ (d ++ e))),
  length-append b (c ++ (d ++ e)),
  length-append c (d ++ e),
  length-append d e,
)

pub issuer_small : (v : CertificateValue) → GoodCertificate v → length v.tbs.issuer < 2 ^ 32
issuer_small v good = omega (
  arith,
  good.tbs.size,
  fourth (version_part v.tbs.version) (el 0x02 v.tbs.serial) (algorithm_element v.tbs.algorithm) v.tbs.issuer
      (el 0x30 (validity_parts v.tbs.validity) ++ (v.tbs.subject
      ++ (v.tbs.key
      ++ (optional 0x81 v.tbs.issuer_id ++ (optional 0x82 v.tbs.subject_id ++ extensions_part v.tbs.extensions))))),
)

only_is : (xs : List (List ℕ)) (x : List ℕ) → Some x ≡ only xs → xs ≡ x ∷ []
only_is [] x e = absurd cc
only_is (y ∷ []) x e = let q : x ≡ y = cc in ap (λ (z : List ℕ). z ∷ []) (sym q)
only_is (y ∷ z ∷ xs) x e = absurd cc

one_name : (x y : List ℕ) (xs : List (List ℕ)) → Some x ≡ only xs → xs ≡ y ∷ [] → x ≡ y
one_name x y xs e is = some_octets x y (e ∙ ap only is)

-- a comparison with the only general name says whether it is the issuer
pub names_issuer : (v : CertificateValue) (i : IssuerSerialValue) (name issuer : List ℕ) (b : Bool) → GoodCertificate v
    → Some name ≡ only i.names
    → issuer ≡ v.tbs.issuer → b ≡ is_element_of 0xa4 issuer name → IsTrue b ↔ (i.names ≡ el 0xa4 v.tbs.issuer ∷ [])
names_issuer v i name issuer b encoded at_name at_issuer at_b = (
  λ h. only_is i.names name at_name ∙ ap (λ (x : List ℕ). x ∷ [])
      ((element_is 0xa4 issuer name (sym at_b ∙ h)).1 ∙ ap (λ (x : List ℕ). el 0xa4 x) at_issuer),
  λ e. at_b ∙ subst (λ (x : List ℕ). is_element_of 0xa4 issuer x ≡ true)
      (ap (λ (x : List ℕ). el 0xa4 x) at_issuer ∙ sym (one_name name (el 0xa4 v.tbs.issuer) i.names at_name e))
      (element_again 0xa4 issuer (subst (λ (x : List ℕ). length x < 2 ^ 32) (sym at_issuer) (issuer_small v encoded))),
)

pub is_issuer : (v : CertificateValue) (i : IssuerSerialValue) (b r : Bool)
    → IsTrue b ↔ (i.names ≡ el 0xa4 v.tbs.issuer ∷ []) → b ≡ true
    → IsTrue r ↔ (i.serial ≡ v.tbs.serial) → IsTrue r ↔ IsIssuerOf v i
is_issuer v i b r names good serials =
    (λ h. record { name = names.0 good; serial = serials.0 h }, λ m. serials.1 m.serial)

pub another_name : (v : CertificateValue) (i : IssuerSerialValue) (b : Bool)
    → IsTrue b ↔ (i.names ≡ el 0xa4 v.tbs.issuer ∷ []) → b ≡ false
    → IsTrue b ↔ IsIssuerOf v i
another_name v i b names bad = (λ h. absurd (never_both b bad h), λ m. names.1 m.name)

-- ---- one identifier

pub hash_names : (alg : Alg) (i : CertIdValue) (v : CertificateValue) (h d : List ℕ) (r : Bool) → h ≡ i.hash
    → d ≡ digest_of alg (encoding v) → r ≡ is_same h d
    → IfSome i.issuer_serial (IsIssuerOf v) → IsTrue r ↔ NamesBy alg i v
hash_names alg i v h d r at_h at_d at_r issuer = (
  λ good. record { hash = sym at_h ∙ (same h d (sym at_r ∙ good) ∙ at_d); issuer = issuer },
  λ n. at_r ∙ is_then_same h d (at_h ∙ (n.hash ∙ sym at_d)),
)

plain_none : (o : Option (List ℕ)) → is_none o ≡ true → IsPlain o
plain_none None e = tt
plain_none (Some p) e = absurd cc

names_default : (a : AlgorithmValue) → is_default a ≡ true → Names a.oid a.parameters Sha256
names_default a e = let p = and_true (is_none a.parameters) (is_same a.oid (contents_of Sha256)) e in
    record { contents = same a.oid (contents_of Sha256) p.1; plain = plain_none a.parameters p.0 }

-- the default, absent or spelled out, is SHA-256 and no other
pub by_default : (o : Option AlgorithmValue) (h : HashAlgorithm) → IsHashAlgorithm o h
    → (h ≡ Absent) ⊎ (h ≡ SpelledDefault)
    → HashedBy o Sha256 × ((alg : Alg) → HashedBy o alg → Some Sha256 ≡ Some alg)
by_default None h is e = (refl, (λ alg at. ap (λ (x : Alg). Some x) (sym at)))
by_default (Some a) Absent is e = absurd cc
by_default (Some a) SpelledDefault is e =
    let n = names_default a is in (n, (λ alg at. sym (named_is a Sha256 n) ∙ named_is a alg at))
by_default (Some a) (Other b) is (inl e) = absurd cc
by_default (Some a) (Other b) is (inr e) = absurd cc

-- ---- the attributes

some_id : (i j : CertIdValue) → Some i ≡ Some j → i ≡ j
some_id i j e = cc

some_alg : (a b : Alg) → Some a ≡ Some b → a ≡ b
some_alg a b e = cc

pub in_v1 : (attributes : List AttributeValue) (c : CertificateValue) (first : CertIdValue) (r : Bool)
    → FirstId attributes id_signing_certificate EncodesSigningCertificate first
    → ((f : CertIdValue) → FirstId attributes id_signing_certificate EncodesSigningCertificate f → Some first ≡ Some f)
    → IsTrue r ↔ NamesBy Sha1 first c → IsTrue r ↔ NamesInV1 attributes c
in_v1 attributes c first r is alone iff = (
  λ h. record { id = first; first = is; names = iff.0 h },
  λ n. iff.1 (subst (λ (f : CertIdValue). NamesBy Sha1 f c) (sym (some_id first n.id (alone n.id n.first))) n.names),
)

pub not_in_v1 : (attributes : List AttributeValue) (c : CertificateValue) → ((f : CertIdValue)
    → FirstId attributes id_signing_certificate EncodesSigningCertificate f → None ≡ Some f)
    → IsTrue false ↔ NamesInV1 attributes c
not_in_v1 attributes c none = ((λ h. absurd cc), (λ n. let z = none n.id n.first in absurd cc))

pub in_v2 : (attributes : List AttributeValue) (c : CertificateValue) (first : CertIdValue) (alg : Alg) (r : Bool)
    → FirstId attributes id_signing_certificate_v2 EncodesSigningCertificateV2 first
    → ((f : CertIdValue) → FirstId attributes id_signing_certificate_v2 EncodesSigningCertificateV2 f
    → Some first ≡ Some f)
    → HashedBy first.algorithm alg → ((a : Alg) → HashedBy first.algorithm a → Some alg ≡ Some a)
    → IsTrue r ↔ NamesBy alg first c
    → IsTrue r ↔ NamesInV2 attributes c
in_v2 attributes c first alg r is alone hashed one_alg iff = (
  λ h. record { id = first; first = is; alg = alg; hashed = hashed; names = iff.0 h },
  λ n. let e = some_id first n.id (alone n.id n.first) in
      let a = some_alg alg n.alg
      (one_alg n.alg (subst (λ (f : CertIdValue). HashedBy f.algorithm n.alg) (sym e) n.hashed)) in
      iff.1 (subst (λ (x : Alg). NamesBy x first c) (sym a)
      (subst (λ (f : CertIdValue). NamesBy n.alg f c) (sym e) n.names)),
)

pub not_in_v2 : (attributes : List AttributeValue) (c : CertificateValue) → ((f : CertIdValue)
    → FirstId attributes id_signing_certificate_v2 EncodesSigningCertificateV2 f → None ≡ Some f)
    → IsTrue false ↔ NamesInV2 attributes c
not_in_v2 attributes c none = ((λ h. absurd cc), (λ n. let z = none n.id n.first in absurd cc))

pub unknown_in_v2 : (attributes : List AttributeValue) (c : CertificateValue) (first : CertIdValue)
    → ((f : CertIdValue) → FirstId attributes id_signing_certificate_v2 EncodesSigningCertificateV2 f
    → Some first ≡ Some f)
    → ((a : Alg) → HashedBy first.algorithm a → None ≡ Some a) → IsTrue false ↔ NamesInV2 attributes c
unknown_in_v2 attributes c first alone none = (
  (λ h. absurd cc),
  (λ n. let e = some_id first n.id (alone n.id n.first) in
      let z = none n.alg (subst (λ (f : CertIdValue). HashedBy f.algorithm n.alg) (sym e) n.hashed) in absurd cc),
)
