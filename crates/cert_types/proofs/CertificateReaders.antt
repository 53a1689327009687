-- A certificate that is read is good and is there, a good certificate is read, and faults are those of the grammar.
use Rattle.std.proofs.Common.{◌≡◌, ℕ, ◌<◌, ◌^◌, true, List, [], ◌∷◌, ◌++◌, length, Option, Some, None, Ok, Err, refl}
use Rattle.std.proofs.Common.{sym, ap, subst, ◌∙◌, append_assoc, lit<}
use Rattle.std.specs.Prelude.{IfSome}
use Rattle.der_core.specs.declared.fault.Fault.{Fault}
use Rattle.der_core.specs.Element.{len, el, IsBytes}
use Rattle.der_core.specs.Contents.{is_integer, is_bits}
use Rattle.der_core.specs.Values.{optional, HasLength, IsInteger, algorithm_element, GoodAlgorithm}
use Rattle.der_core.specs.Encoding.{IsEncoding}
use Rattle.der_core.specs.Faults.{Faults}
use Rattle.der_core.specs.Form.{Form, full, opaque}
use Rattle.der_core.specs.Grammar.{one, opt, is_of, version, integer, bits, file, algorithm}
use Rattle.der_grammar.specs.Table.{validity, certificate_extensions, tbs_certificate, certificate}
use Rattle.der_core.specs.Reading.{spot, within, maybe, last, element_at, ◌then◌, whole_of, integer_in, version_in}
use Rattle.der_core.specs.Reading.{bits_in}
use Rattle.der_core.specs.AlgorithmReading.{algorithm_in}
use Rattle.der_core.proofs.ReadLengths.{ok_is}
use Rattle.der_core.proofs.Fronts.{Apart, Others, front_apart, optional_apart, at_end_apart}
use Rattle.der_core.proofs.Readers.{Anything, Nothing, IsReader, IsBody, within_reader, maybe_reader, last_reader}
use Rattle.der_core.proofs.Readers.{then_reader, whole_body, made_body}
use Rattle.der_core.proofs.Readers.{enc_option, GoodOption}
use Rattle.der_core.proofs.PartReaders.{Always, Not, Last, alike_body, alike_reader, integer_body, bits_body}
use Rattle.der_core.proofs.PartReaders.{version_body, opt_reader, element_reader}
use Rattle.der_core.proofs.AlgorithmReader.{algorithm_reader}
use Rattle.der_time.specs.TimeValue.{time_element, GoodTime}
use Rattle.der_time.proofs.TimeReaders.{time_reader}
use Rattle.cert_types.specs.ExtensionValue.{ExtensionValue, extensions_parts}
use Rattle.cert_types.specs.DistinctExtensions.{GoodDistinct, distinct_in}
use Rattle.cert_types.specs.CertificateValue.{ValidityValue, TbsCertificateValue, CertificateValue, version_part}
use Rattle.cert_types.specs.CertificateValue.{validity_parts, extensions_part, tbs_parts}
use Rattle.cert_types.specs.CertificateValue.{certificate_parts, encoding, IsSequence, IsBits, IsVersion, GoodValidity}
use Rattle.cert_types.specs.CertificateValue.{GoodTbsCertificate, GoodCertificate}
use Rattle.cert_types.specs.CertificateValue.{EncodesCertificate}
use Rattle.cert_types.specs.CertificateReading.{validity_from, validity_in, explicit_version_in, explicit_extensions_in}
use Rattle.cert_types.specs.CertificateReading.{Parts, tbs_from, tbs_in}
use Rattle.cert_types.specs.CertificateReading.{certificate_from, certificate_in, certificate_at}
use Rattle.cert_types.proofs.DistinctReader.{distinct_body}

-- ---- the validity

abbrev ValidityParts : ValidityValue → Type 0
ValidityParts v = GoodTime v.from × GoodTime v.until

validity_body : IsBody validity_in validity_parts ValidityParts validity
unfolding validity_in
validity_body =
    made_body validity_from (λ v. (v.from, v.until)) (λ v. refl) _ (λ p. time_element p.0 ++ time_element p.1)
    (λ p. GoodTime p.0 × GoodTime p.1) validity
    (whole_body _ _ _ _ _ _ (then_reader _ _ _ _ _ time_reader _ _ _ _ _ _ time_reader (λ y r h l. tt)) tt tt)
    (λ p h. refl)

validity_reader : IsReader (within 0x30 validity_in) (λ v. el 0x30 (validity_parts v)) GoodValidity
    (one 0x30 validity) Always Anything
validity_reader = alike_reader _ (λ v. el 0x30 (validity_parts v)) _ GoodValidity (λ v. refl)
    (λ v h. record { from = h.0.0; until = h.0.1; size = h.1 })
    (λ v h. ((h.from, h.until), h.size)) _ _ _ Always Anything (λ r l. l)
    (within_reader 0x30 refl validity_in validity_parts ValidityParts validity validity_body)

-- ---- explicit parts

abbrev versions : List ℕ
versions = 0 ∷ 1 ∷ 2 ∷ []

-- at most one octet, so four length octets can state the length
version_small : (b : List ℕ) → is_of versions b ≡ true → HasLength b
version_small [] h = lit< tt
version_small (v ∷ []) h = lit< tt
version_small (v ∷ w ∷ ws) h = absurd cc

explicit_version_body :
    IsBody explicit_version_in (λ b. el 0x02 b) (λ b. IsVersion b × HasLength b) (one 0x02 (version versions) full)
unfolding explicit_version_in
explicit_version_body = whole_body _ _ _ _ _ _ (within_reader 0x02 refl (version_in versions) (λ b. b)
    (λ b. (is_integer b ≡ true) × (is_of versions b ≡ true)) (version versions) (version_body versions)) tt tt

abbrev Extended : List ExtensionValue → Type 0
Extended es = GoodDistinct es × HasLength (extensions_parts es)

explicit_extensions_body :
    IsBody explicit_extensions_in (λ es. el 0x30 (extensions_parts es)) Extended (one 0x30 certificate_extensions full)
unfolding explicit_extensions_in
explicit_extensions_body = whole_body _ _ _ _ _ _
    (within_reader 0x30 refl distinct_in extensions_parts GoodDistinct certificate_extensions distinct_body) tt tt

-- ---- parts that may be absent

abbrev version_listed : Option (List ℕ) → List ℕ
version_listed o = enc_option 160 refl explicit_version_in (λ b. el 0x02 b) (λ b. IsVersion b × HasLength b)
    (one 0x02 (version versions) full) explicit_version_body o

abbrev VersionListed : Option (List ℕ) → Type 0
VersionListed o = GoodOption 160 refl explicit_version_in (λ b. el 0x02 b) (λ b. IsVersion b × HasLength b)
    (one 0x02 (version versions) full) explicit_version_body o

same_version : (o : Option (List ℕ)) → version_listed o ≡ version_part o
same_version None = refl
same_version (Some b) = refl

good_version : (o : Option (List ℕ)) → VersionListed o → IfSome o IsVersion
good_version None h = tt
good_version (Some b) h = h.0.0

-- an INTEGER of one octet is an element of three octets
element_small : (b : List ℕ) → is_of versions b ≡ true → HasLength (el 0x02 b)
unfolding len
element_small [] h = lit< tt
element_small (v ∷ []) h = lit< tt
element_small (v ∷ w ∷ ws) h = absurd cc

version_good : (o : Option (List ℕ)) → IfSome o IsVersion → VersionListed o
version_good None h = tt
version_good (Some b) h = ((h, version_small b h.1), element_small b h.1)

version_reader : IsReader (maybe 0xa0 explicit_version_in) version_part (λ o. IfSome o IsVersion)
    (opt 0xa0 (one 0x02 (version versions) full)) (Not 0xa0) Anything
version_reader = alike_reader version_listed version_part VersionListed
    (λ o. IfSome o IsVersion) same_version good_version version_good
    (maybe 0xa0 explicit_version_in) (opt 0xa0 (one 0x02 (version versions) full)) (Not 0xa0) (Not 0xa0) Anything
    (λ r l. l)
    (maybe_reader 0xa0 refl explicit_version_in (λ b. el 0x02 b) (λ b. IsVersion b × HasLength b)
    (one 0x02 (version versions) full) explicit_version_body)

abbrev listed : Option (List ExtensionValue) → List ℕ
listed o = enc_option 163 refl explicit_extensions_in (λ es. el 0x30 (extensions_parts es)) Extended
    (one 0x30 certificate_extensions full) explicit_extensions_body o

abbrev Listed : Option (List ExtensionValue) → Type 0
Listed o = GoodOption 163 refl explicit_extensions_in (λ es. el 0x30 (extensions_parts es)) Extended
    (one 0x30 certificate_extensions full) explicit_extensions_body o

abbrev GoodList : Option (List ExtensionValue) → Type 0
GoodList o =
    IfSome o (λ es. GoodDistinct es × HasLength (extensions_parts es) × HasLength (el 0x30 (extensions_parts es)))

same_listed : (o : Option (List ExtensionValue)) → listed o ≡ extensions_part o
same_listed None = refl
same_listed (Some es) = refl

good_listed : (o : Option (List ExtensionValue)) → Listed o → GoodList o
good_listed None h = tt
good_listed (Some es) h = (h.0.0, h.0.1, h.1)

listed_good : (o : Option (List ExtensionValue)) → GoodList o → Listed o
listed_good None h = tt
listed_good (Some es) h = ((h.0, h.1), h.2)

extensions_reader : IsReader (last 0xa3 explicit_extensions_in) extensions_part GoodList
    (opt 0xa3 (one 0x30 certificate_extensions full)) Last Nothing
extensions_reader = alike_reader listed extensions_part Listed GoodList same_listed good_listed listed_good
    (last 0xa3 explicit_extensions_in) _ Last Last Nothing (λ r l. l)
    (last_reader 0xa3 refl explicit_extensions_in (λ es. el 0x30 (extensions_parts es)) Extended
    (one 0x30 certificate_extensions full) explicit_extensions_body)

-- ---- the parts, which their identifiers distinguish

extensions_apart : (o : Option (List ExtensionValue)) (r us : List ℕ) → Others 163 us → r ≡ []
    → Apart us (extensions_part o ++ r)
extensions_apart None r us h l = at_end_apart us r l
extensions_apart (Some es) r us h l = front_apart 163 (el 0x30 (extensions_parts es)) r us h

ids_apart : (i : Option (List ℕ)) (o : Option (List ExtensionValue)) (r us : List ℕ) → Others 130 us → Others 163 us
    → r ≡ [] → Apart us ((optional 0x82 i ++ extensions_part o) ++ r)
ids_apart i o r us h k l = rw (append_assoc (optional 0x82 i) (extensions_part o) r)
    (optional_apart 130 i (extensions_part o ++ r) us h (extensions_apart o r us k l))

abbrev GoodParts : Parts → Type 0
GoodParts p = IfSome p.0 IsVersion × (IsInteger p.1.0
    × (GoodAlgorithm p.1.1.0
    × (IsSequence p.1.1.1.0 × (GoodValidity p.1.1.1.1.0 × (IsSequence p.1.1.1.1.1.0 × (IsSequence p.1.1.1.1.1.1.0
    × (IfSome p.1.1.1.1.1.1.1.0 IsBits × (IfSome p.1.1.1.1.1.1.1.1.0 IsBits × GoodList p.1.1.1.1.1.1.1.1.1))))))))

abbrev all_parts : Parts → List ℕ
all_parts p = version_part p.0
    ++ (el 0x02 p.1.0 ++ (algorithm_element p.1.1.0
    ++ (p.1.1.1.0 ++ (el 0x30 (validity_parts p.1.1.1.1.0) ++ (p.1.1.1.1.1.0 ++ (p.1.1.1.1.1.1.0
    ++ (optional 0x81 p.1.1.1.1.1.1.1.0
    ++ (optional 0x82 p.1.1.1.1.1.1.1.1.0 ++ extensions_part p.1.1.1.1.1.1.1.1.1))))))))

abbrev due_parts : Form → Form
due_parts after = opt 0xa0 (one 0x02 (version versions) full)
    (one 0x02 integer (one 0x30 algorithm (one 0x30 opaque (one 0x30 validity (one 0x30 opaque (one 0x30 opaque
    (opt 0x81 bits (opt 0x82 bits (opt 0xa3 (one 0x30 certificate_extensions full) after)))))))))

-- if the version is absent, an INTEGER comes first
serial_first : (b r : List ℕ) → Not 0xa0 (el 0x02 b ++ r)
serial_first b r = refl

parts_reader : IsReader
    (maybe 0xa0 explicit_version_in then within 0x02 integer_in then within 0x30 algorithm_in then element_at 0x30
    then within 0x30 validity_in
    then element_at 0x30 then element_at 0x30 then maybe 0x81 bits_in then maybe 0x82 bits_in
    then last 0xa3 explicit_extensions_in) all_parts
    GoodParts due_parts Last Nothing
parts_reader =
    let second = then_reader _ _ _ _ _
    (opt_reader 0x82 refl bits_in (λ b. is_bits b ≡ true) bits bits_body) _ _ _ _ _ _ extensions_reader
    (λ y r h l. (extensions_apart y r (130 ∷ []) (refl, tt) l).0) in
    let first =
    then_reader _ _ _ _ _ (opt_reader 0x81 refl bits_in (λ b. is_bits b ≡ true) bits bits_body) _ _ _ _ _ _ second
    (λ y r h l. (ids_apart y.0 y.1 r (129 ∷ []) (refl, tt) (refl, tt) l).0) in
    let key = then_reader _ _ _ _ _ (element_reader 0x30) _ _ _ _ _ _ first (λ y r h l. tt) in
    let subject = then_reader _ _ _ _ _ (element_reader 0x30) _ _ _ _ _ _ key (λ y r h l. tt) in
    let period = then_reader _ _ _ _ _ validity_reader _ _ _ _ _ _ subject (λ y r h l. tt) in
    let issuer = then_reader _ _ _ _ _ (element_reader 0x30) _ _ _ _ _ _ period (λ y r h l. tt) in
    let signature = then_reader _ _ _ _ _ algorithm_reader _ _ _ _ _ _ issuer (λ y r h l. tt) in
    let serial = then_reader _ _ _ _ _
    (within_reader 0x02 refl integer_in (λ b. b) (λ b. is_integer b ≡ true) integer integer_body)
    _ _ _ _ _ _ signature (λ y r h l. tt) in
    then_reader _ _ _ _ _ version_reader _ _ _ _ _ _ serial (λ y r h l. refl)

-- ---- a certificate

abbrev tuple : TbsCertificateValue → Parts
tuple s = (
  s.version,
  (
    s.serial,
    (s.algorithm, (s.issuer, (s.validity, (s.subject, (s.key, (s.issuer_id, (s.subject_id, s.extensions))))))),
  ),
)

tbs_body : IsBody tbs_in tbs_parts (λ s. GoodParts (tuple s)) tbs_certificate
unfolding tbs_in
tbs_body = made_body tbs_from tuple (λ s. refl) _ all_parts GoodParts tbs_certificate
    (whole_body _ _ _ _ _ _ parts_reader refl refl) (λ p h. refl)

tbs_good : (s : TbsCertificateValue) → GoodParts (tuple s) × (length (tbs_parts s) < 2 ^ 32) → GoodTbsCertificate s
tbs_good s h = record {
  version = h.0.0;
  serial = h.0.1.0;
  algorithm = h.0.1.1.0;
  issuer = h.0.1.1.1.0;
  validity = h.0.1.1.1.1.0;
  subject = h.0.1.1.1.1.1.0;
  key = h.0.1.1.1.1.1.1.0;
  issuer_id = h.0.1.1.1.1.1.1.1.0;
  subject_id = h.0.1.1.1.1.1.1.1.1.0;
  extensions = h.0.1.1.1.1.1.1.1.1.1;
  size = h.1;
}

good_tbs : (s : TbsCertificateValue) → GoodTbsCertificate s → GoodParts (tuple s) × (length (tbs_parts s) < 2 ^ 32)
good_tbs s h = (
  (
    h.version,
    (
      h.serial,
      (
        h.algorithm,
        (h.issuer, (h.validity, (h.subject, (h.key, (h.issuer_id, (h.subject_id, h.extensions)))))),
      ),
    ),
  ),
  h.size,
)

tbs_reader : IsReader (within 0x30 tbs_in) (λ s. el 0x30 (tbs_parts s)) GoodTbsCertificate
    (one 0x30 tbs_certificate) Always Anything
tbs_reader = alike_reader _ (λ s. el 0x30 (tbs_parts s)) _ GoodTbsCertificate
    (λ s. refl) tbs_good good_tbs _ _ _ Always Anything (λ r l. l)
    (within_reader 0x30 refl tbs_in tbs_parts (λ s. GoodParts (tuple s)) tbs_certificate tbs_body)

signature_reader : IsReader (within 0x03 bits_in) (λ b. el 0x03 b) IsBits (one 0x03 bits) Always Anything
signature_reader = within_reader 0x03 refl bits_in (λ b. b) (λ b. is_bits b ≡ true) bits bits_body

abbrev CertificateParts : CertificateValue → Type 0
CertificateParts v = GoodTbsCertificate v.tbs × (GoodAlgorithm v.algorithm × IsBits v.signature)

certificate_body : IsBody certificate_in certificate_parts CertificateParts certificate
unfolding certificate_in
certificate_body =
    made_body certificate_from (λ v. (v.tbs, (v.algorithm, v.signature))) (λ v. refl) _ (λ p. el 0x30 (tbs_parts p.0)
    ++ (algorithm_element p.1.0 ++ el 0x03 p.1.1))
    (λ p. GoodTbsCertificate p.0 × (GoodAlgorithm p.1.0 × IsBits p.1.1)) certificate
    (whole_body _ _ _ _ _ _ (then_reader _ _ _ _ _ tbs_reader _ _ _ _ _ _
    (then_reader _ _ _ _ _ algorithm_reader _ _ _ _ _ _ signature_reader
    (λ y r h l. tt)) (λ y r h l. tt)) tt tt) (λ p h. refl)

file_body : IsBody (whole_of (within 0x30 certificate_in)) encoding GoodCertificate (file certificate)
file_body = alike_body _ encoding _ GoodCertificate (λ v. refl)
    (λ v h. record { tbs = h.0.0; algorithm = h.0.1.0; signature = h.0.1.1; size = h.1 })
    (λ v h. ((h.tbs, (h.algorithm, h.signature)), h.size)) _ (file certificate)
    (whole_body _ _ _ _ _ _
    (within_reader 0x30 refl certificate_in certificate_parts CertificateParts certificate certificate_body) tt tt)

-- ---- the three laws of reading

pub certificate_takes : (bytes : List ℕ) (v : CertificateValue) → IsBytes bytes → certificate_at bytes ≡ Ok v
    → EncodesCertificate bytes v
unfolding certificate_at
certificate_takes bytes v fits e = let t = file_body.takes (spot 0 bytes) v fits e in (t.1, t.0)

pub certificate_again : (bytes : List ℕ) (v : CertificateValue) → EncodesCertificate bytes v
    → certificate_at bytes ≡ Ok v
unfolding certificate_at
certificate_again bytes v h = ap certificate_at h.0 ∙ file_body.again v 0 h.1

pub certificate_fault : (bytes : List ℕ) (f : Fault) → IsBytes bytes → certificate_at bytes ≡ Err f
    → Faults (file certificate) bytes f
unfolding certificate_at
certificate_fault bytes f fits e = file_body.faults (spot 0 bytes) f fits e

-- ---- the definitions agree

pub certificate_encodes : (bytes : List ℕ) (v : CertificateValue) → EncodesCertificate bytes v
    → IsEncoding (file certificate) bytes
certificate_encodes bytes v h = subst (IsEncoding (file certificate)) (sym h.0) (file_body.encodes v h.1)

pub certificate_unique : (bytes : List ℕ) (v w : CertificateValue) → EncodesCertificate bytes v
    → EncodesCertificate bytes w → v ≡ w
certificate_unique bytes v w h k = ok_is v w (sym (certificate_again bytes v h) ∙ certificate_again bytes w k)
