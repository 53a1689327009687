-- What is read of a signing certificate is good and stands there, what is good is read, and faults are those of the
-- grammar: of version 2, and of version 1, what is read of which is read so as one of version 2.
use Rattle.std.proofs.Common.{◌≡◌, ℕ, true, List, [], ◌∷◌, ◌++◌, Option, Some, None, Result, Ok, Err, refl, ap, sym}
use Rattle.std.proofs.Common.{subst, ◌∙◌, inl, inr}
use Rattle.std.specs.Prelude.{IfSome}
use Rattle.std.specs.List.{AllByRecursion}
use Rattle.der_core.specs.declared.fault.Fault.{Fault}
use Rattle.der_core.specs.Element.{el, IsBytes}
use Rattle.der_core.specs.Encoding.{Encodes, IsEncoding}
use Rattle.der_core.specs.Faults.{Faults}
use Rattle.der_core.specs.Form.{Form, Many, full, opaque, opaques}
use Rattle.der_core.specs.AlgorithmReading.{algorithm_in}
use Rattle.der_core.specs.Contents.{is_integer}
use Rattle.der_core.specs.Grammar.{one, opt, list, algorithm, integer, file}
use Rattle.der_grammar.specs.Table.{issuer_serial, ess_id, ess_id_v2, signing_certificate, signing_certificate_v2}
use Rattle.der_core.specs.Reading.{Spot, spot, within, maybe, last, ◌then◌, whole_of, any_at, integer_in}
use Rattle.der_core.specs.Values.{optional, HasLength, IsInteger, IsOpaque, AlgorithmValue, algorithm_parts}
use Rattle.der_core.specs.Values.{GoodAlgorithm}
use Rattle.der_core.proofs.ReadLengths.{ok_is}
use Rattle.der_core.proofs.Results.{bind_ok, bind_err}
use Rattle.der_core.proofs.Readers.{Body, IsReader, IsBody, Anything, Nothing, within_reader, maybe_reader, last_reader}
use Rattle.der_core.proofs.Readers.{then_reader, whole_body, made_body}
use Rattle.der_core.proofs.Readers.{any_body, enc_option, GoodOption}
use Rattle.der_core.proofs.PartReaders.{Not, Last, opt_last_reader, alike_body, alike_reader, integer_body}
use Rattle.der_core.proofs.PartReaders.{octets_reader}
use Rattle.der_core.proofs.AlgorithmReader.{AlgorithmParts, algorithm_body}
use Rattle.der_core.proofs.Lists.{many_body}
use Rattle.der_lists.specs.Items.{all_in, IsList}
use Rattle.der_lists.proofs.OpaqueLists.{opaques_body}
use Rattle.ess_types.specs.SigningCertificateValue.{IssuerSerialValue, names_parts, issuer_serial_parts}
use Rattle.ess_types.specs.SigningCertificateValue.{optional_issuer_serial, GoodIssuerSerial, CertIdValue}
use Rattle.ess_types.specs.SigningCertificateValue.{optional_algorithm, cert_id_parts, GoodCertId, NamesNoAlgorithm}
use Rattle.ess_types.specs.SigningCertificateValue.{SigningCertificateValue, ids_parts}
use Rattle.ess_types.specs.SigningCertificateValue.{signing_certificate_parts, encoding, GoodSigningCertificate}
use Rattle.ess_types.specs.SigningCertificateValue.{EncodesSigningCertificate}
use Rattle.ess_types.specs.SigningCertificateValue.{EncodesSigningCertificateV2}
use Rattle.ess_types.specs.SigningCertificateReading.{names_in, issuer_serial_from, issuer_serial_in, plain_id_from}
use Rattle.ess_types.specs.SigningCertificateReading.{plain_id_in, cert_id_from, cert_id_in}
use Rattle.ess_types.specs.SigningCertificateReading.{plain_ids_in, ids_in, signing_certificate_from, signing_in}
use Rattle.ess_types.specs.SigningCertificateReading.{signing_certificate_at}
use Rattle.ess_types.specs.SigningCertificateReading.{signing_certificate_v2_at}

abbrev EachOpaque : List (List ℕ) → Type 0
EachOpaque xs = AllByRecursion IsOpaque xs

-- ---- an issuer and a serial number

abbrev IssuerParts : IssuerSerialValue → Type 0
IssuerParts i = (EachOpaque i.names × HasLength (names_parts i.names)) × IsInteger i.serial

issuer_serial_body : IsBody issuer_serial_in issuer_serial_parts IssuerParts issuer_serial
unfolding issuer_serial_in
issuer_serial_body = made_body issuer_serial_from (λ i. (i.names, i.serial)) (λ i. refl)
    (whole_of (within 0x30 names_in then within 0x02 integer_in))
    (λ p. el 0x30 (names_parts p.0) ++ el 0x02 p.1)
    (λ p. (EachOpaque p.0 × HasLength (names_parts p.0)) × IsInteger p.1) issuer_serial
    (whole_body _ _ _ _ _ _ (then_reader _ _ _ _ _
    (within_reader 0x30 refl names_in names_parts EachOpaque (opaques Many full) opaques_body)
    _ _ _ _ _ _ (within_reader 0x02 refl integer_in (λ b. b) (λ b. is_integer b ≡ true) integer integer_body)
    (λ y r h l. tt)) tt tt)
    (λ p h. refl)

abbrev IsIssuer : Option IssuerSerialValue → Type 0
IsIssuer o = IfSome o GoodIssuerSerial

issuer_reader :
    IsReader (last 0x30 issuer_serial_in) optional_issuer_serial IsIssuer (opt 0x30 issuer_serial) Last Nothing
issuer_reader = alike_reader listed optional_issuer_serial GoodListed IsIssuer same good back
    (last 0x30 issuer_serial_in) (opt 0x30 issuer_serial)
    Last Last Nothing (λ r l. l)
    (last_reader 0x30 refl issuer_serial_in issuer_serial_parts IssuerParts issuer_serial issuer_serial_body)
  where
    listed : Option IssuerSerialValue → List ℕ
    listed o = enc_option 48 refl issuer_serial_in issuer_serial_parts IssuerParts issuer_serial issuer_serial_body o

    GoodListed : Option IssuerSerialValue → Type 0
    GoodListed o =
        GoodOption 48 refl issuer_serial_in issuer_serial_parts IssuerParts issuer_serial issuer_serial_body o

    same : (o : Option IssuerSerialValue) → listed o ≡ optional_issuer_serial o
    same None = refl
    same (Some i) = refl

    good : (o : Option IssuerSerialValue) → GoodListed o → IsIssuer o
    good None h = tt
    good (Some i) h = record { names = h.0.0.0; list = h.0.0.1; serial = h.0.1; size = h.1 }

    back : (o : Option IssuerSerialValue) → IsIssuer o → GoodListed o
    back None h = tt
    back (Some i) h = (((h.names, h.list), h.serial), h.size)

-- ---- an identifier of a certificate

abbrev IsAlgorithm : Option AlgorithmValue → Type 0
IsAlgorithm o = IfSome o GoodAlgorithm

algorithm_option :
    IsReader (maybe 0x30 algorithm_in) optional_algorithm IsAlgorithm (opt 0x30 algorithm) (Not 0x30) Anything
algorithm_option = alike_reader listed optional_algorithm GoodListed IsAlgorithm same good back
    (maybe 0x30 algorithm_in) (opt 0x30 algorithm)
    (Not 0x30) (Not 0x30) Anything (λ r l. l)
    (maybe_reader 0x30 refl algorithm_in algorithm_parts AlgorithmParts algorithm algorithm_body)
  where
    listed : Option AlgorithmValue → List ℕ
    listed o = enc_option 48 refl algorithm_in algorithm_parts AlgorithmParts algorithm algorithm_body o

    GoodListed : Option AlgorithmValue → Type 0
    GoodListed o = GoodOption 48 refl algorithm_in algorithm_parts AlgorithmParts algorithm algorithm_body o

    same : (o : Option AlgorithmValue) → listed o ≡ optional_algorithm o
    same None = refl
    same (Some a) = refl

    good : (o : Option AlgorithmValue) → GoodListed o → IsAlgorithm o
    good None h = tt
    good (Some a) h = record { oid = h.0.0; parameters = h.0.1; size = h.1 }

    back : (o : Option AlgorithmValue) → IsAlgorithm o → GoodListed o
    back None h = tt
    back (Some a) h = ((h.oid, h.parameters), h.size)

abbrev Stated : Type 0
Stated = List ℕ × Option IssuerSerialValue

abbrev stated : Stated → List ℕ
stated p = el 0x04 p.0 ++ optional_issuer_serial p.1

abbrev GoodStated : Stated → Type 0
GoodStated p = HasLength p.0 × IsIssuer p.1

hashed : IsReader (within 0x04 any_at then last 0x30 issuer_serial_in) stated GoodStated
    (λ after. one 0x04 opaque (opt 0x30 issuer_serial after)) Last Nothing
hashed = then_reader _ _ _ _ _ octets_reader _ _ _ _ _ _ issuer_reader (λ y r h l. tt)

abbrev CertIdParts : CertIdValue → Type 0
CertIdParts i = IsAlgorithm i.algorithm × (HasLength i.hash × IsIssuer i.issuer_serial)

cert_id_body : IsBody cert_id_in cert_id_parts CertIdParts ess_id_v2
unfolding cert_id_in
cert_id_body =
    made_body cert_id_from (λ i. (i.algorithm, (i.hash, i.issuer_serial))) (λ i. refl) _ (λ p. optional_algorithm p.0
    ++ (el 0x04 p.1.0 ++ optional_issuer_serial p.1.1))
    (λ p. IsAlgorithm p.0 × (HasLength p.1.0 × IsIssuer p.1.1)) ess_id_v2
    (whole_body _ _ _ _ _ _ parts refl refl) (λ p h. refl)
  where
    parts : IsReader (maybe 0x30 algorithm_in then within 0x04 any_at then last 0x30 issuer_serial_in)
        (λ p. optional_algorithm p.0 ++ (el 0x04 p.1.0 ++ optional_issuer_serial p.1.1))
        (λ p. IsAlgorithm p.0 × (HasLength p.1.0 × IsIssuer p.1.1))
        (λ after. opt 0x30 algorithm (one 0x04 opaque (opt 0x30 issuer_serial after))) Last Nothing
    parts = then_reader _ _ _ _ _ algorithm_option _ _ _ _ _ _ hashed (λ y r h l. refl)

abbrev Listed : CertIdValue → Type 0
Listed i = CertIdParts i × HasLength (cert_id_parts i)

listed_good : (xs : List CertIdValue) → AllByRecursion Listed xs → AllByRecursion GoodCertId xs
listed_good [] h = tt
listed_good (i ∷ xs) h =
    (record { algorithm = h.0.0.0; hash = h.0.0.1.0; issuer_serial = h.0.0.1.1; size = h.0.1 }, listed_good xs h.1)

good_listed : (xs : List CertIdValue) → AllByRecursion GoodCertId xs → AllByRecursion Listed xs
good_listed [] h = tt
good_listed (i ∷ xs) h = (((h.0.algorithm, (h.0.hash, h.0.issuer_serial)), h.0.size), good_listed xs h.1)

ids_body : IsBody ids_in ids_parts (AllByRecursion GoodCertId) (list 0x30 ess_id_v2)
ids_body = alike_body ids_parts ids_parts (AllByRecursion Listed) (AllByRecursion GoodCertId)
    (λ xs. refl) listed_good good_listed ids_in (list 0x30 ess_id_v2)
    (many_body 48 refl cert_id_in cert_id_parts CertIdParts ess_id_v2 cert_id_body)

-- ---- an identifier of version 1, which is one of version 2 that names no algorithm

abbrev PlainParts : CertIdValue → Type 0
PlainParts i = NamesNoAlgorithm i × CertIdParts i

-- an identifier that names no algorithm is made of its other parts
plain_is : (i : CertIdValue) → NamesNoAlgorithm i → plain_id_from (i.hash, i.issuer_serial) ≡ i
plain_is i h =
    ap (λ (o : Option AlgorithmValue). record { algorithm = o; hash = i.hash; issuer_serial = i.issuer_serial }) (sym h)

stated_body : IsBody (whole_of (within 0x04 any_at then last 0x30 issuer_serial_in)) stated GoodStated ess_id
stated_body = whole_body _ _ _ _ _ _ hashed refl refl

plain_id_body : IsBody plain_id_in cert_id_parts PlainParts ess_id
unfolding plain_id_in
plain_id_body = record {
  takes = λ s x fits e.
      let a = bind_ok (read s) (λ v. Ok (plain_id_from v)) x e in
      let t = stated_body.takes s a.0 fits a.1 in
      subst (λ (i : CertIdValue). PlainParts i × (s.rest ≡ cert_id_parts i)) (ok_is (plain_id_from a.0) x a.2)
      ((refl, (tt, t.0)), t.1);
  again = λ x n h.
      let one : plain_id_in (spot n (stated (x.hash, x.issuer_serial)))
      ≡ made_id (plain_id_from (x.hash, x.issuer_serial)) =
      rw (stated_body.again (x.hash, x.issuer_serial) n h.1.1) refl in
      subst (λ (i : CertIdValue). plain_id_in (spot n (cert_id_parts i)) ≡ made_id i) (plain_is x h.0) one;
  faults = λ s f fits e.
      elim (bind_err (read s) (λ v. Ok (plain_id_from v)) f e) [
        | inl a ↦ stated_body.faults s f fits a
        | inr a ↦ absurd (let z = a.2 in cc)
      ];
  encodes = λ x h. subst (λ (i : CertIdValue). Encodes [] ess_id (cert_id_parts i)) (plain_is x h.0)
      (stated_body.encodes (x.hash, x.issuer_serial) h.1.1);
}
  where
    read : Body Stated
    read s = whole_of (within 0x04 any_at then last 0x30 issuer_serial_in) s

    made_id : CertIdValue → Result CertIdValue Fault
    made_id i = Ok i

abbrev PlainListed : CertIdValue → Type 0
PlainListed i = PlainParts i × HasLength (cert_id_parts i)

abbrev PlainIds : List CertIdValue → Type 0
PlainIds xs = AllByRecursion GoodCertId xs × AllByRecursion NamesNoAlgorithm xs

plain_good : (xs : List CertIdValue) → AllByRecursion PlainListed xs → PlainIds xs
plain_good [] h = (tt, tt)
plain_good (i ∷ xs) h =
    let others = plain_good xs h.1 in
    let k = h.0.0.1 in
    ((record { algorithm = k.0; hash = k.1.0; issuer_serial = k.1.1; size = h.0.1 }, others.0), (h.0.0.0, others.1))

good_plain : (xs : List CertIdValue) → PlainIds xs → AllByRecursion PlainListed xs
good_plain [] h = tt
good_plain (i ∷ xs) h =
    let g = h.0.0 in (((h.1.0, (g.algorithm, (g.hash, g.issuer_serial))), g.size), good_plain xs (h.0.1, h.1.1))

plain_ids_body : IsBody plain_ids_in ids_parts PlainIds (list 0x30 ess_id)
plain_ids_body = alike_body ids_parts ids_parts (AllByRecursion PlainListed) PlainIds
    (λ xs. refl) plain_good good_plain plain_ids_in (list 0x30 ess_id)
    (many_body 48 refl plain_id_in cert_id_parts PlainParts ess_id plain_id_body)

-- identifiers that are read as ones of version 1 are read as ones of version 2
pub ids_alike : (s : Spot) (xs : List CertIdValue) → IsBytes s.rest → plain_ids_in s ≡ Ok xs → ids_in s ≡ Ok xs
ids_alike s xs fits e =
    let t = plain_ids_body.takes s xs fits e in
    ap (λ (b : List ℕ). ids_in (spot s.pos b)) t.1 ∙ ids_body.again xs s.pos t.0.0

pub plain_list : (s : Spot) (xs : List CertIdValue) → IsBytes s.rest → plain_ids_in s ≡ Ok xs
    → IsList (within 0x30 cert_id_in) s
plain_list s xs fits e = rw (ids_alike s xs fits e) refl

pub plain_values : (s : Spot) (xs : List CertIdValue) → IsBytes s.rest → plain_ids_in s ≡ Ok xs
    → plain_ids_in s ≡ Ok (all_in (within 0x30 cert_id_in) s)
plain_values s xs fits e = rw (ids_alike s xs fits e) e

-- ---- a signing certificate, whatever its identifiers are

abbrev IsPolicies : Option (List ℕ) → Type 0
IsPolicies o = IfSome o (λ b. Unit {0} × HasLength b)

policies_good : (o : Option (List ℕ)) → IsPolicies o → IfSome o HasLength
policies_good None h = tt
policies_good (Some b) h = h.1

good_policies : (o : Option (List ℕ)) → IfSome o HasLength → IsPolicies o
good_policies None h = tt
good_policies (Some b) h = (tt, h)

module _ (read : Body (List CertIdValue)) (GoodIds : List CertIdValue → Type 0) (id : Form)
    (law : IsBody read ids_parts GoodIds (list 0x30 id)) where
  abbrev GoodPair : List CertIdValue × Option (List ℕ) → Type 0
  GoodPair p = (GoodIds p.0 × HasLength (ids_parts p.0)) × IsPolicies p.1

  abbrev parted : List CertIdValue × Option (List ℕ) → List ℕ
  parted p = el 0x30 (ids_parts p.0) ++ optional 0x30 p.1

  abbrev PartsGood : SigningCertificateValue → Type 0
  PartsGood v = GoodPair (v.ids, v.policies)

  abbrev form : Form
  form = one 0x30 (list 0x30 id) (opt 0x30 opaque full)

  parts_reader : IsReader (within 0x30 read then last 0x30 any_at) parted GoodPair
      (λ after. one 0x30 (list 0x30 id) (opt 0x30 opaque after)) Last Nothing
  parts_reader = then_reader _ _ _ _ _ (within_reader 0x30 refl read ids_parts GoodIds (list 0x30 id) law)
      _ _ _ _ _ _ (opt_last_reader 0x30 refl any_at (λ b. Unit {0}) opaque any_body) (λ y r h l. tt)

  parts_body : IsBody (signing_in read) signing_certificate_parts PartsGood form
  parts_body = made_body signing_certificate_from (λ v. (v.ids, v.policies)) (λ v. refl) _ parted GoodPair form
      (whole_body _ _ _ _ _ _ parts_reader refl refl) (λ p h. refl)

  abbrev GoodWhole : SigningCertificateValue → Type 0
  GoodWhole v = PartsGood v × HasLength (signing_certificate_parts v)

  signing_body : IsBody (whole_of (within 0x30 (signing_in read))) encoding GoodWhole (file form)
  signing_body = whole_body _ _ _ _ _ _
      (within_reader 0x30 refl (signing_in read) signing_certificate_parts PartsGood form parts_body) tt tt

-- ---- of version 2

second_body :
    IsBody (whole_of (within 0x30 (signing_in ids_in))) encoding GoodSigningCertificate (file signing_certificate_v2)
second_body = alike_body encoding encoding _ GoodSigningCertificate (λ v. refl)
    (λ v h. record { ids = h.0.0.0; list = h.0.0.1; policies = policies_good v.policies h.0.1; size = h.1 })
    (λ v h. (((h.ids, h.list), good_policies v.policies h.policies), h.size)) _ (file signing_certificate_v2)
    (signing_body ids_in (AllByRecursion GoodCertId) ess_id_v2 ids_body)

pub signing_takes : (bytes : List ℕ) (v : SigningCertificateValue) → IsBytes bytes
    → signing_certificate_v2_at bytes ≡ Ok v
    → EncodesSigningCertificateV2 bytes v
unfolding signing_certificate_v2_at
signing_takes bytes v fits e = let t = second_body.takes (spot 0 bytes) v fits e in (t.1, t.0)

pub signing_again : (bytes : List ℕ) (v : SigningCertificateValue) → EncodesSigningCertificateV2 bytes v
    → signing_certificate_v2_at bytes ≡ Ok v
unfolding signing_certificate_v2_at
signing_again bytes v h = ap signing_certificate_v2_at h.0 ∙ second_body.again v 0 h.1

pub signing_fault : (bytes : List ℕ) (f : Fault) → IsBytes bytes → signing_certificate_v2_at bytes ≡ Err f
    → Faults (file signing_certificate_v2) bytes f
unfolding signing_certificate_v2_at
signing_fault bytes f fits e = second_body.faults (spot 0 bytes) f fits e

pub signing_encodes : (bytes : List ℕ) (v : SigningCertificateValue) → EncodesSigningCertificateV2 bytes v
    → IsEncoding (file signing_certificate_v2) bytes
signing_encodes bytes v h = subst (IsEncoding (file signing_certificate_v2)) (sym h.0) (second_body.encodes v h.1)

pub signing_unique : (bytes : List ℕ) (v w : SigningCertificateValue) → EncodesSigningCertificateV2 bytes v
    → EncodesSigningCertificateV2 bytes w → v ≡ w
signing_unique bytes v w h k = ok_is v w (sym (signing_again bytes v h) ∙ signing_again bytes w k)

-- ---- of version 1

abbrev GoodPlain : SigningCertificateValue → Type 0
GoodPlain v = GoodSigningCertificate v × AllByRecursion NamesNoAlgorithm v.ids

first_body : IsBody (whole_of (within 0x30 (signing_in plain_ids_in))) encoding GoodPlain (file signing_certificate)
first_body = alike_body encoding encoding _ GoodPlain (λ v. refl)
    (λ v h.
    (record { ids = h.0.0.0.0; list = h.0.0.1; policies = policies_good v.policies h.0.1; size = h.1 }, h.0.0.0.1))
    (λ v h. let g = h.0 in ((((g.ids, h.1), g.list), good_policies v.policies g.policies), g.size)) _
    (file signing_certificate)
    (signing_body plain_ids_in PlainIds ess_id plain_ids_body)

pub plain_takes : (bytes : List ℕ) (v : SigningCertificateValue) → IsBytes bytes → signing_certificate_at bytes ≡ Ok v
    → EncodesSigningCertificate bytes v
unfolding signing_certificate_at
plain_takes bytes v fits e = let t = first_body.takes (spot 0 bytes) v fits e in ((t.1, t.0.0), t.0.1)

pub plain_again : (bytes : List ℕ) (v : SigningCertificateValue) → EncodesSigningCertificate bytes v
    → signing_certificate_at bytes ≡ Ok v
unfolding signing_certificate_at
plain_again bytes v h = ap signing_certificate_at h.0.0 ∙ first_body.again v 0 (h.0.1, h.1)

pub plain_fault : (bytes : List ℕ) (f : Fault) → IsBytes bytes → signing_certificate_at bytes ≡ Err f
    → Faults (file signing_certificate) bytes f
unfolding signing_certificate_at
plain_fault bytes f fits e = first_body.faults (spot 0 bytes) f fits e

pub plain_encodes : (bytes : List ℕ) (v : SigningCertificateValue) → EncodesSigningCertificate bytes v
    → IsEncoding (file signing_certificate) bytes
plain_encodes bytes v h = subst (IsEncoding (file signing_certificate)) (sym h.0.0) (first_body.encodes v (h.0.1, h.1))

pub plain_unique : (bytes : List ℕ) (v w : SigningCertificateValue) → EncodesSigningCertificate bytes v
    → EncodesSigningCertificate bytes w → v ≡ w
plain_unique bytes v w h k = signing_unique bytes v w h.0 k.0
