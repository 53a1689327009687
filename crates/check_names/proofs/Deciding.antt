-- What the rules of naming ask of attributes and a certificate can be decided.
use Rattle.std.proofs.Common.{◌≡◌, ◌≢◌, ℕ, Bool, true, false, List, [], ◌∷◌, Option, Some, None, Result, Ok, Err, refl}
use Rattle.std.proofs.Common.{sym, ap, subst, ◌∙◌, inl, inr, ◌⊎◌}
use Rattle.std.specs.Prelude.{IfSome}
use Rattle.der_core.specs.declared.fault.Fault.{Fault}
use Rattle.der_core.specs.Element.{el, IsBytes}
use Rattle.der_core.specs.Lists.{is_same}
use Rattle.der_core.specs.Values.{AlgorithmValue}
use Rattle.der_core.proofs.Encoded.{same}
use Rattle.cert_types.specs.CertificateValue.{CertificateValue, encoding}
use Rattle.digests.specs.Messages.{digest_of}
use Rattle.digests.specs.declared.algorithm.Alg.{Alg}
use Rattle.digests.specs.declared.algorithm.Alg.TheVariants.{Sha1, Sha256}
use Rattle.cms_types.specs.AttributeValue.{AttributeValue}
use Rattle.check_fit.specs.Attributes.{single_value, occurrences}
use Rattle.digests.specs.Named.{alg_named}
use Rattle.ess_types.specs.SigningCertificateValue.{IssuerSerialValue, CertIdValue, SigningCertificateValue}
use Rattle.ess_types.specs.SigningCertificateValue.{EncodesSigningCertificate}
use Rattle.ess_types.specs.SigningCertificateValue.{EncodesSigningCertificateV2}
use Rattle.ess_types.specs.SigningCertificateReading.{signing_certificate_at, signing_certificate_v2_at}
use Rattle.check_names.specs.Naming.{id_signing_certificate, id_signing_certificate_v2, IsIssuerOf, NamesBy, HashedBy}
use Rattle.check_names.specs.Naming.{FirstId, NamesInV1, NamesInV2, Occurs}
use Rattle.check_names.specs.Naming.{NamesIfAny, MustName}
use Rattle.digests.proofs.Named.{named_is, named_says}
use Rattle.der_core.proofs.SameOctets.{is_then_same}
use Rattle.check_fit.proofs.Octets.{ValuesAreOctets, one_octets}
use Rattle.ess_types.proofs.SigningCertificateReaders.{signing_takes, signing_again, plain_takes, plain_again}

abbrev pub Decided : Type 0 → Type 0
Decided A = A ⊎ (A → ⊥)

pub both : {A B : Type 0} → Decided A → Decided B → Decided (A × B)
both (inl a) (inl b) = inl (a, b)
both (inl a) (inr nay) = inr (λ p. nay p.1)
both (inr nay) d = inr (λ p. nay p.0)

pub either : {A B : Type 0} → Decided A → Decided B → Decided (A ⊎ B)
either (inl a) d = inl (inl a)
either (inr nay) (inl b) = inl (inr b)
either {A} {B} (inr nay) (inr never) = inr go
  where
    go : A ⊎ B → ⊥
    go (inl a) = nay a
    go (inr b) = never b

pub implies : {A B : Type 0} → Decided A → Decided B → Decided (A → B)
implies (inr nay) d = inl (λ a. absurd (nay a))
implies (inl a) (inl b) = inl (λ x. b)
implies (inl a) (inr nay) = inr (λ f. nay (f a))

-- the same fact in other words
pub in_words : {A B : Type 0} → (A → B) → (B → A) → Decided A → Decided B
in_words to from (inl a) = inl (to a)
in_words to from (inr nay) = inr (λ b. nay (from b))

pub is_true : (b : Bool) → Decided (b ≡ true)
is_true true = inl refl
is_true false = inr (λ e. absurd cc)

pub octets_same : (xs ys : List ℕ) → Decided (xs ≡ ys)
octets_same xs ys = in_words (same xs ys) (is_then_same xs ys) (is_true (is_same xs ys))

pub if_some : {A : Type 0} (P : A → Type 0) (o : Option A) → ((x : A) → Decided (P x)) → Decided (IfSome o P)
if_some P None d = inl tt
if_some P (Some x) d = d x

-- ---- naming

pub one_name : (names : List (List ℕ)) (x : List ℕ) → Decided (names ≡ x ∷ [])
one_name [] x = inr (λ e. absurd cc)
one_name (y ∷ []) x = in_words (λ e. ap (λ (z : List ℕ). z ∷ []) e) (λ e. head y x e) (octets_same y x)
  where
    head : (a b : List ℕ) → a ∷ [] ≡ b ∷ [] → a ≡ b
    head a b e = cc
one_name (y ∷ z ∷ names) x = inr (λ e. absurd cc)

issuer_of : (c : CertificateValue) (i : IssuerSerialValue) → Decided (IsIssuerOf c i)
issuer_of c i = in_words (λ p. record { name = p.0; serial = p.1 }) (λ h. (h.name, h.serial))
    (both (one_name i.names (el 0xa4 c.tbs.issuer)) (octets_same i.serial c.tbs.serial))

names_by : (alg : Alg) (i : CertIdValue) (c : CertificateValue) → Decided (NamesBy alg i c)
names_by alg i c = in_words (λ p. record { hash = p.0; issuer = p.1 }) (λ h. (h.hash, h.issuer))
    (both (octets_same i.hash (digest_of alg (encoding c))) (if_some (IsIssuerOf c) i.issuer_serial (issuer_of c)))

-- the algorithm of an identifier of version 2 is one
abbrev Hashed : CertIdValue → CertificateValue → Option AlgorithmValue → Type 0
Hashed i c o = (alg : Alg) × HashedBy o alg × NamesBy alg i c

abbrev NamesHashed : CertIdValue → CertificateValue → Type 0
NamesHashed i c = Hashed i c i.algorithm

one_alg : (a b : Alg) (o : Option Alg) → o ≡ Some a → o ≡ Some b → a ≡ b
one_alg a b o e h = let z = sym e ∙ h in cc

no_alg : (alg : Alg) (o : Option Alg) → o ≡ None → o ≡ Some alg → ⊥
no_alg alg o e h = let z = sym e ∙ h in cc

hashed_by_name : (i : CertIdValue) (c : CertificateValue) (a : AlgorithmValue) (o : Option Alg) → alg_named a ≡ o
    → Decided (Hashed i c (Some a))
hashed_by_name i c a None e = inr (λ h. no_alg h.0 (alg_named a) e (named_is a h.0 h.1))
hashed_by_name i c a (Some alg) e = in_words (λ n. (alg, named_says a alg e, n))
    (λ h. subst (λ (x : Alg). NamesBy x i c) (one_alg h.0 alg (alg_named a) (named_is a h.0 h.1) e) h.2)
    (names_by alg i c)

hashed : (i : CertIdValue) (c : CertificateValue) (o : Option AlgorithmValue) → Decided (Hashed i c o)
hashed i c None =
    in_words (λ n. (Sha256, refl, n)) (λ h. subst (λ (x : Alg). NamesBy x i c) h.1 h.2) (names_by Sha256 i c)
hashed i c (Some a) = hashed_by_name i c a (alg_named a) refl

names_hashed : (i : CertIdValue) (c : CertificateValue) → Decided (NamesHashed i c)
names_hashed i c = hashed i c i.algorithm

some_value : (a b : List ℕ) (o : Option (List ℕ)) → o ≡ Some a → o ≡ Some b → a ≡ b
some_value a b o e h = let z = sym e ∙ h in cc

same_ids : (a b : CertIdValue) (xs ys : List CertIdValue) (cs : List CertIdValue) → cs ≡ a ∷ xs → cs ≡ b ∷ ys → a ≡ b
same_ids a b xs ys cs e h = let z = sym e ∙ h in cc

abbrev cert : SigningCertificateValue → Result SigningCertificateValue Fault
cert v = Ok v

-- what octets of a signing certificate of either version read as
record IsReadBy (Encodes : List ℕ → SigningCertificateValue → Type 0)
    (at : List ℕ → Result SigningCertificateValue Fault) : Type 0 where
  pub takes : (bytes : List ℕ) (v : SigningCertificateValue) → IsBytes bytes → at bytes ≡ Ok v → Encodes bytes v
  pub again : (bytes : List ℕ) (v : SigningCertificateValue) → Encodes bytes v → at bytes ≡ Ok v

-- the first identifier that an attribute states, and what is asked of it
abbrev FirstSo : (attributes : List AttributeValue) (id : List ℕ) (Encodes : List ℕ → SigningCertificateValue → Type 0)
    (Asks : CertIdValue → Type 0) → Type 0
FirstSo attributes id Encodes Asks = (i : CertIdValue) × FirstId attributes id Encodes i × Asks i

module _ (attributes : List AttributeValue) (id : List ℕ) (Encodes : List ℕ → SigningCertificateValue → Type 0)
    (at : List ℕ → Result SigningCertificateValue Fault) (is_read : IsReadBy Encodes at) where
  -- what the attribute states is what its one value reads as
  stated_is : (value : List ℕ) (i : CertIdValue) → single_value attributes id ≡ Some value
      → (f : FirstId attributes id Encodes i) → at value ≡ Ok f.certificate
  stated_is value i once f = is_read.again value f.certificate (subst (λ (b : List ℕ). Encodes b f.certificate)
      (some_value f.value value (single_value attributes id) f.once once) f.encodes)

  same_read : (v w : SigningCertificateValue) (value : List ℕ) → at value ≡ Ok v → at value ≡ Ok w → v ≡ w
  same_read v w value e h = let z = sym e ∙ h in cc

  first_so : (Asks : CertIdValue → Type 0) → ValuesAreOctets attributes → ((i : CertIdValue) → Decided (Asks i))
      → Decided (FirstSo attributes id Encodes Asks)
  first_so Asks octets decide = by_value (single_value attributes id) refl
    where
      by_ids : (value : List ℕ) → single_value attributes id ≡ Some value → (v : SigningCertificateValue)
          → at value ≡ Ok v → Encodes value v
          → (ids : List CertIdValue) → v.ids ≡ ids → Decided (FirstSo attributes id Encodes Asks)
      by_ids value once v e encodes [] is = inr (λ n.
          let c : n.1.certificate ≡ v = same_read n.1.certificate v value (stated_is value n.0 once n.1) e in
          let z = sym n.1.is_first ∙ ap (λ (x : SigningCertificateValue). x.ids) c ∙ is in cc)
      by_ids value once v e encodes (i ∷ others) is =
          in_words (λ a. (
            i,
            record {
              value = value;
              once = once;
              certificate = v;
              encodes = encodes;
              others = others;
              is_first = is;
            },
            a,
          )) (λ n.
          let c : n.1.certificate ≡ v = same_read n.1.certificate v value (stated_is value n.0 once n.1) e in
          let f : n.0 ≡ i = same_ids n.0 i n.1.others others n.1.certificate.ids n.1.is_first
          (ap (λ (x : SigningCertificateValue). x.ids) c ∙ is) in
          subst Asks f n.2) (decide i)

      by_reading : (value : List ℕ) → single_value attributes id ≡ Some value
          → (r : Result SigningCertificateValue Fault)
          → at value ≡ r → Decided (FirstSo attributes id Encodes Asks)
      by_reading value once (Err f) e = inr (λ n.
          let z : cert n.1.certificate ≡ Err f = sym (stated_is value n.0 once n.1) ∙ e in
          absurd cc)
      by_reading value once (Ok v) e =
          by_ids value once v e (is_read.takes value v (one_octets attributes id value octets once) e) v.ids refl

      by_value : (o : Option (List ℕ)) → single_value attributes id ≡ o → Decided (FirstSo attributes id Encodes Asks)
      by_value None e = inr (λ n. let z = sym e ∙ n.1.once in cc)
      by_value (Some value) e = by_reading value e (at value) refl

names_in_v1 : (attributes : List AttributeValue) (c : CertificateValue) → ValuesAreOctets attributes
    → Decided (NamesInV1 attributes c)
names_in_v1 attributes c octets = in_words
    (λ n. record { id = n.0; first = n.1; names = n.2 })
    (λ n. (n.id, n.first, n.names))
    (first_so attributes id_signing_certificate EncodesSigningCertificate signing_certificate_at
    (record { takes = plain_takes; again = plain_again })
    (λ i. NamesBy Sha1 i c) octets (λ i. names_by Sha1 i c))

names_in_v2 : (attributes : List AttributeValue) (c : CertificateValue) → ValuesAreOctets attributes
    → Decided (NamesInV2 attributes c)
names_in_v2 attributes c octets = in_words
    (λ n. record { id = n.0; first = n.1; alg = n.2.0; hashed = n.2.1; names = n.2.2 })
    (λ n. (n.id, n.first, (n.alg, n.hashed, n.names)))
    (first_so attributes id_signing_certificate_v2 EncodesSigningCertificateV2 signing_certificate_v2_at
    (record { takes = signing_takes; again = signing_again }) (λ i. NamesHashed i c) octets (λ i. names_hashed i c))

occurs : (attributes : List AttributeValue) (id : List ℕ) → Decided (Occurs attributes id)
occurs attributes id = go (occurrences attributes id)
  where
    go : (xs : List AttributeValue) → Decided (xs ≢ [])
    go [] = inr (λ nay. nay refl)
    go (x ∷ xs) = inl (λ e. absurd cc)

pub names_if_any : (attributes : List AttributeValue) (c : CertificateValue) → ValuesAreOctets attributes
    → Decided (NamesIfAny attributes c)
names_if_any attributes c octets = in_words (λ p. record { v1 = p.0; v2 = p.1 }) (λ n. (n.v1, n.v2))
    (both (implies (occurs attributes id_signing_certificate) (names_in_v1 attributes c octets))
    (implies (occurs attributes id_signing_certificate_v2) (names_in_v2 attributes c octets)))

pub must_name : (attributes : List AttributeValue) (c : CertificateValue) → ValuesAreOctets attributes
    → Decided (MustName attributes c)
must_name attributes c octets = in_words (λ p. record { names = p.0; some = p.1 }) (λ n. (n.names, n.some))
    (both (names_if_any attributes c octets)
    (either (occurs attributes id_signing_certificate) (occurs attributes id_signing_certificate_v2)))
