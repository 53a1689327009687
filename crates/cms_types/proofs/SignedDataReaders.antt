-- A ContentInfo that is read is good and is there, a good one is read, and faults are those of the grammar.
use Rattle.std.proofs.Common.{◌≡◌, ℕ, true, List, [], ◌∷◌, ◌++◌, Option, Some, None, Ok, Err, refl, sym, ap, subst, ◌∙◌}
use Rattle.std.proofs.Common.{lit<, inl, inr, ◌⊎◌}
use Rattle.std.specs.Prelude.{IfSome}
use Rattle.std.specs.List.{AllByRecursion}
use Rattle.der_core.specs.declared.fault.Fault.{Fault}
use Rattle.der_core.specs.Element.{el, IsBytes}
use Rattle.der_core.specs.AlgorithmReading.{algorithm_in}
use Rattle.der_core.specs.Contents.{is_oid}
use Rattle.der_core.specs.Encoding.{IsEncoding}
use Rattle.der_core.specs.Faults.{Faults}
use Rattle.der_core.specs.Form.{Form, full, opaque, opaques, One}
use Rattle.der_core.specs.Grammar.{one, opt, list, version, algorithm, oid, file}
use Rattle.der_grammar.specs.Table.{encap, cert_choices, crl_choices, signer_info, signed_data, content_info}
use Rattle.der_grammar.specs.Table.{id_signed_data}
use Rattle.der_core.specs.Reading.{spot, within, maybe, last, ◌then◌, whole_of, oid_in, version_in, switched}
use Rattle.der_core.specs.Values.{HasLength, IsOid, IsOpaque, AlgorithmValue, algorithm_parts, GoodAlgorithm}
use Rattle.der_core.proofs.ReadLengths.{ok_is}
use Rattle.der_core.proofs.Readers.{IsReader, IsBody, Anything, Nothing, within_reader, maybe_reader, last_reader}
use Rattle.der_core.proofs.Readers.{then_reader, whole_body, made_body}
use Rattle.der_core.proofs.Readers.{enc_option, GoodOption}
use Rattle.der_core.proofs.PartReaders.{Always, Not, alike_body, alike_reader, oid_body, oid_reader, octets_reader}
use Rattle.der_core.proofs.AlgorithmReader.{AlgorithmParts, algorithm_body}
use Rattle.der_core.proofs.Lists.{many_body}
use Rattle.der_core.proofs.SwitchBody.{switch_body, enc_switched, GoodSwitched}
use Rattle.der_lists.specs.Items.{explicit_opaque_in}
use Rattle.der_lists.specs.Checked.{tagged_in}
use Rattle.der_lists.proofs.OpaqueLists.{EachTagged, tagged_body}
use Rattle.der_lists.proofs.OpaqueReader.{explicit_opaque_body}
use Rattle.cms_types.specs.AttributeValue.{joined}
use Rattle.cms_types.specs.SignerValue.{SignerValue, IsVersion, GoodSigner}
use Rattle.cms_types.specs.SignedDataValue.{EncapsulatedValue, content_part, encapsulated_parts, GoodEncapsulated}
use Rattle.cms_types.specs.SignedDataValue.{certificate_tags, crl_tags, GoodChoices}
use Rattle.cms_types.specs.SignedDataValue.{optional_choices, SignedDataValue, algorithms_parts, signers_parts}
use Rattle.cms_types.specs.SignedDataValue.{signed_data_parts, GoodSignedData}
use Rattle.cms_types.specs.SignedDataValue.{ContentInfoValue, SignedContent, OtherContent, content_info_parts, encoding}
use Rattle.cms_types.specs.SignedDataValue.{GoodContentInfo, EncodesContentInfo}
use Rattle.cms_types.specs.SignedDataValue.{EncodesSignedData}
use Rattle.cms_types.specs.SignedDataReading.{explicit_octets_in, encapsulated_from, encapsulated_in, algorithms_in}
use Rattle.cms_types.specs.SignedDataReading.{signers_in, SignedDataParts}
use Rattle.cms_types.specs.SignedDataReading.{signed_data_from, signed_data_in, explicit_signed_data_in}
use Rattle.cms_types.specs.SignedDataReading.{signed_content_in, other_content_in, content_info_from}
use Rattle.cms_types.specs.SignedDataReading.{content_info_in, content_info_at}
use Rattle.cms_types.proofs.AttributeReaders.{AtEnd}
use Rattle.cms_types.proofs.SignerReaders.{version_reader, signers_body}

-- ---- the encapsulated content

explicit_octets_body : IsBody explicit_octets_in (λ b. el 0x04 b) HasLength (one 0x04 opaque full)
unfolding explicit_octets_in
explicit_octets_body = whole_body _ _ _ _ _ _ octets_reader tt tt

abbrev listed_content : Option (List ℕ) → List ℕ
listed_content o =
    enc_option 160 refl explicit_octets_in (λ b. el 0x04 b) HasLength (one 0x04 opaque full) explicit_octets_body o

abbrev ListedContent : Option (List ℕ) → Type 0
ListedContent o =
    GoodOption 160 refl explicit_octets_in (λ b. el 0x04 b) HasLength (one 0x04 opaque full) explicit_octets_body o

abbrev GoodContent : Option (List ℕ) → Type 0
GoodContent o = IfSome o (λ b. HasLength b × HasLength (el 0x04 b))

same_content : (o : Option (List ℕ)) → listed_content o ≡ content_part o
same_content None = refl
same_content (Some b) = refl

good_content : (o : Option (List ℕ)) → ListedContent o → GoodContent o
good_content None h = tt
good_content (Some b) h = h

content_good : (o : Option (List ℕ)) → GoodContent o → ListedContent o
content_good None h = tt
content_good (Some b) h = h

content_reader :
    IsReader (last 0xa0 explicit_octets_in) content_part GoodContent (opt 0xa0 (one 0x04 opaque full)) AtEnd Nothing
content_reader =
    alike_reader listed_content content_part ListedContent GoodContent same_content good_content content_good
    (last 0xa0 explicit_octets_in) (opt 0xa0 (one 0x04 opaque full)) AtEnd AtEnd Nothing (λ r l. l)
    (last_reader 0xa0 refl explicit_octets_in (λ b. el 0x04 b) HasLength (one 0x04 opaque full) explicit_octets_body)

abbrev EncapsulatedGood : EncapsulatedValue → Type 0
EncapsulatedGood e = IsOid e.content_type × GoodContent e.content

encapsulated_body : IsBody encapsulated_in encapsulated_parts EncapsulatedGood encap
unfolding encapsulated_in
encapsulated_body =
    made_body encapsulated_from (λ e. (e.content_type, e.content)) (λ e. refl) _ (λ p. el 0x06 p.0 ++ content_part p.1)
    (λ p. IsOid p.0 × GoodContent p.1) encap
    (whole_body _ _ _ _ _ _ (then_reader _ _ _ _ _ oid_reader _ _ _ _ _ _ content_reader (λ y r h l. tt)) refl refl)
    (λ p h. refl)

encapsulated_reader : IsReader (within 0x30 encapsulated_in) (λ e. el 0x30 (encapsulated_parts e)) GoodEncapsulated
    (one 0x30 encap) Always Anything
encapsulated_reader = alike_reader _ (λ e. el 0x30 (encapsulated_parts e)) _ GoodEncapsulated (λ e. refl) (λ e
    h. record { content_type = h.0.0; content = h.0.1; size = h.1 })
    (λ e h. ((h.content_type, h.content), h.size)) _ _ _ Always Anything (λ r l. l)
    (within_reader 0x30 refl encapsulated_in encapsulated_parts EncapsulatedGood encap encapsulated_body)

-- ---- the algorithms

abbrev Listed : AlgorithmValue → Type 0
Listed a = AlgorithmParts a × HasLength (algorithm_parts a)

listed_good : (xs : List AlgorithmValue) → AllByRecursion Listed xs → AllByRecursion GoodAlgorithm xs
listed_good [] h = tt
listed_good (a ∷ xs) h = (record { oid = h.0.0.0; parameters = h.0.0.1; size = h.0.1 }, listed_good xs h.1)

good_listed : (xs : List AlgorithmValue) → AllByRecursion GoodAlgorithm xs → AllByRecursion Listed xs
good_listed [] h = tt
good_listed (a ∷ xs) h = (((h.0.oid, h.0.parameters), h.0.size), good_listed xs h.1)

algorithms_body : IsBody algorithms_in algorithms_parts (AllByRecursion GoodAlgorithm) (list 0x30 algorithm)
algorithms_body = alike_body algorithms_parts algorithms_parts (AllByRecursion Listed) (AllByRecursion GoodAlgorithm)
    (λ xs. refl) listed_good good_listed algorithms_in (list 0x30 algorithm)
    (many_body 48 refl algorithm_in algorithm_parts AlgorithmParts algorithm algorithm_body)

-- ---- certificates and revocation information

abbrev listed_certificates : Option (List (List ℕ)) → List ℕ
listed_certificates o = enc_option 160 refl (tagged_in certificate_tags) joined
    (EachTagged certificate_tags) cert_choices (tagged_body certificate_tags) o

abbrev ListedCertificates : Option (List (List ℕ)) → Type 0
ListedCertificates o = GoodOption 160 refl (tagged_in certificate_tags) joined
    (EachTagged certificate_tags) cert_choices (tagged_body certificate_tags) o

same_certificates : (o : Option (List (List ℕ))) → listed_certificates o ≡ optional_choices 160 o
same_certificates None = refl
same_certificates (Some xs) = refl

good_certificates : (o : Option (List (List ℕ))) → ListedCertificates o → IfSome o (GoodChoices certificate_tags)
good_certificates None h = tt
good_certificates (Some xs) h = h

certificates_good : (o : Option (List (List ℕ))) → IfSome o (GoodChoices certificate_tags) → ListedCertificates o
certificates_good None h = tt
certificates_good (Some xs) h = h

certificates_reader : IsReader (maybe 0xa0 (tagged_in certificate_tags)) (optional_choices 160)
    (λ o. IfSome o (GoodChoices certificate_tags))
    (opt 0xa0 cert_choices) (Not 0xa0) Anything
certificates_reader = alike_reader listed_certificates (optional_choices 160) ListedCertificates
    (λ o. IfSome o (GoodChoices certificate_tags)) same_certificates good_certificates certificates_good
    (maybe 0xa0 (tagged_in certificate_tags))
    (opt 0xa0 cert_choices) (Not 0xa0) (Not 0xa0) Anything (λ r l. l)
    (maybe_reader 0xa0 refl (tagged_in certificate_tags) joined (EachTagged certificate_tags) cert_choices
    (tagged_body certificate_tags))

abbrev listed_crls : Option (List (List ℕ)) → List ℕ
listed_crls o =
    enc_option 161 refl (tagged_in crl_tags) joined (EachTagged crl_tags) crl_choices (tagged_body crl_tags) o

abbrev ListedCrls : Option (List (List ℕ)) → Type 0
ListedCrls o =
    GoodOption 161 refl (tagged_in crl_tags) joined (EachTagged crl_tags) crl_choices (tagged_body crl_tags) o

same_crls : (o : Option (List (List ℕ))) → listed_crls o ≡ optional_choices 161 o
same_crls None = refl
same_crls (Some xs) = refl

good_crls : (o : Option (List (List ℕ))) → ListedCrls o → IfSome o (GoodChoices crl_tags)
good_crls None h = tt
good_crls (Some xs) h = h

crls_good : (o : Option (List (List ℕ))) → IfSome o (GoodChoices crl_tags) → ListedCrls o
crls_good None h = tt
crls_good (Some xs) h = h

crls_reader : IsReader (maybe 0xa1 (tagged_in crl_tags)) (optional_choices 161) (λ o. IfSome o (GoodChoices crl_tags))
    (opt 0xa1 crl_choices) (Not 0xa1) Anything
crls_reader = alike_reader listed_crls (optional_choices 161) ListedCrls
    (λ o. IfSome o (GoodChoices crl_tags)) same_crls good_crls crls_good
    (maybe 0xa1 (tagged_in crl_tags)) (opt 0xa1 crl_choices) (Not 0xa1) (Not 0xa1) Anything (λ r l. l)
    (maybe_reader 0xa1 refl (tagged_in crl_tags) joined (EachTagged crl_tags) crl_choices (tagged_body crl_tags))

-- if certificates are absent, revocation information or the signers come next
crls_apart : (o : Option (List (List ℕ))) (b r : List ℕ) → Not 0xa0 ((optional_choices 161 o ++ el 0x31 b) ++ r)
crls_apart None b r = refl
crls_apart (Some xs) b r = refl

-- ---- the parts

abbrev GoodAlgorithms : List AlgorithmValue → Type 0
GoodAlgorithms xs = AllByRecursion GoodAlgorithm xs × HasLength (algorithms_parts xs)

abbrev GoodSigners : List SignerValue → Type 0
GoodSigners ss = AllByRecursion GoodSigner ss × HasLength (signers_parts ss)

abbrev all_parts : SignedDataParts → List ℕ
all_parts p = el 0x02 p.0 ++ (el 0x31 (algorithms_parts p.1.0) ++ (el 0x30 (encapsulated_parts p.1.1.0)
    ++ (optional_choices 160 p.1.1.1.0 ++ (optional_choices 161 p.1.1.1.1.0 ++ el 0x31 (signers_parts p.1.1.1.1.1)))))

abbrev GoodParts : SignedDataParts → Type 0
GoodParts p = IsVersion (1 ∷ 3 ∷ 4 ∷ 5 ∷ []) p.0 × (GoodAlgorithms p.1.0 × (GoodEncapsulated p.1.1.0
    × (IfSome p.1.1.1.0 (GoodChoices certificate_tags)
    × (IfSome p.1.1.1.1.0 (GoodChoices crl_tags) × GoodSigners p.1.1.1.1.1))))

abbrev due_parts : Form → Form
due_parts after = one 0x02 (version (1 ∷ 3 ∷ 4 ∷ 5 ∷ []))
    (one 0x31 (list 0x30 algorithm)
    (one 0x30 encap (opt 0xa0 cert_choices (opt 0xa1 crl_choices (one 0x31 (list 0x30 signer_info) after)))))

parts_reader : IsReader
    (within 0x02 (version_in (1 ∷ 3 ∷ 4 ∷ 5 ∷ [])) then within 0x31 algorithms_in then within 0x30 encapsulated_in
    then maybe 0xa0 (tagged_in certificate_tags) then maybe 0xa1 (tagged_in crl_tags) then within 0x31 signers_in)
    all_parts GoodParts due_parts Always Anything
parts_reader =
    let signers = within_reader 0x31 refl signers_in signers_parts (AllByRecursion GoodSigner)
    (list 0x30 signer_info) signers_body in
    let crls = then_reader _ _ _ _ _ crls_reader _ _ _ _ _ _ signers (λ y r h l. refl) in
    let certificates =
    then_reader _ _ _ _ _ certificates_reader _ _ _ _ _ _ crls (λ y r h l. crls_apart y.0 (signers_parts y.1) r) in
    let content = then_reader _ _ _ _ _ encapsulated_reader _ _ _ _ _ _ certificates (λ y r h l. tt) in
    let algorithms =
    then_reader _ _ _ _ _ (within_reader 0x31 refl algorithms_in algorithms_parts (AllByRecursion GoodAlgorithm)
    (list 0x30 algorithm) algorithms_body) _ _ _ _ _ _ content (λ y r h l. tt) in
    then_reader _ _ _ _ _ (version_reader (1 ∷ 3 ∷ 4 ∷ 5 ∷ [])) _ _ _ _ _ _ algorithms (λ y r h l. tt)

abbrev tuple : SignedDataValue → SignedDataParts
tuple v = (v.version, (v.digest_algorithms, (v.encapsulated, (v.certificates, (v.crls, v.signers)))))

abbrev GoodTuple : SignedDataValue → Type 0
GoodTuple v = GoodParts (tuple v)

signed_data_body : IsBody signed_data_in signed_data_parts GoodTuple signed_data
unfolding signed_data_in
signed_data_body = made_body signed_data_from tuple (λ v. refl) _ all_parts GoodParts signed_data
    (whole_body _ _ _ _ _ _ parts_reader tt tt) (λ p h. refl)

signed_data_reader : IsReader (within 0x30 signed_data_in) (λ v. el 0x30 (signed_data_parts v)) GoodSignedData
    (one 0x30 signed_data) Always Anything
signed_data_reader = alike_reader _ (λ v. el 0x30 (signed_data_parts v)) _ GoodSignedData (λ v. refl)
    (λ v h. record {
      version = h.0.0;
      digest_algorithms = h.0.1.0.0;
      algorithms_size = h.0.1.0.1;
      encapsulated = h.0.1.1.0;
      certificates = h.0.1.1.1.0;
      crls = h.0.1.1.1.1.0;
      signers = h.0.1.1.1.1.1.0;
      signers_size = h.0.1.1.1.1.1.1;
      size = h.1;
    }) (λ v h. (
      (
        h.version,
        (
          (h.digest_algorithms, h.algorithms_size),
          (h.encapsulated, (h.certificates, (h.crls, (h.signers, h.signers_size)))),
        ),
      ),
      h.size,
    )) _ _ _ Always Anything (λ r l. l)
    (within_reader 0x30 refl signed_data_in signed_data_parts GoodTuple signed_data signed_data_body)

-- ---- the ContentInfo

explicit_signed_data_body :
    IsBody explicit_signed_data_in (λ v. el 0x30 (signed_data_parts v)) GoodSignedData (one 0x30 signed_data full)
unfolding explicit_signed_data_in
explicit_signed_data_body = whole_body _ _ _ _ _ _ signed_data_reader tt tt

abbrev GoodSignedContent : SignedDataValue → Type 0
GoodSignedContent v = GoodSignedData v × HasLength (el 0x30 (signed_data_parts v))

signed_content_body : IsBody signed_content_in (λ v. el 0xa0 (el 0x30 (signed_data_parts v))) GoodSignedContent
    (one 0xa0 (one 0x30 signed_data full) full)
unfolding signed_content_in
signed_content_body = whole_body _ _ _ _ _ _
    (within_reader 0xa0 refl explicit_signed_data_in (λ v. el 0x30 (signed_data_parts v)) GoodSignedData
    (one 0x30 signed_data full) explicit_signed_data_body) tt tt

abbrev GoodOtherContent : List ℕ → Type 0
GoodOtherContent x = IsOpaque x × HasLength x

other_content_body : IsBody other_content_in (λ x. el 0xa0 x) GoodOtherContent (one 0xa0 (opaques One full) full)
unfolding other_content_in
other_content_body = whole_body _ _ _ _ _ _
    (within_reader 0xa0 refl explicit_opaque_in (λ x. x) IsOpaque (opaques One full) explicit_opaque_body) tt tt

abbrev Choice : Type 0
Choice = SignedDataValue ⊎ (List ℕ × List ℕ)

abbrev IsId : List ℕ → Type 0
IsId b = is_oid b ≡ true

abbrev spelled : Choice → List ℕ
spelled x = enc_switched 6 refl oid_in IsId oid oid_body id_signed_data refl refl (lit< tt) signed_content_in
    (λ v. el 0xa0 (el 0x30 (signed_data_parts v))) GoodSignedContent
    (one 0xa0 (one 0x30 signed_data full) full) signed_content_body refl
    other_content_in (λ y. el 0xa0 y) GoodOtherContent (one 0xa0 (opaques One full) full) other_content_body refl x

abbrev GoodChoice : Choice → Type 0
GoodChoice x = GoodSwitched 6 refl oid_in IsId oid oid_body id_signed_data refl refl (lit< tt) signed_content_in
    (λ v. el 0xa0 (el 0x30 (signed_data_parts v))) GoodSignedContent
    (one 0xa0 (one 0x30 signed_data full) full) signed_content_body refl
    other_content_in (λ y. el 0xa0 y) GoodOtherContent (one 0xa0 (opaques One full) full) other_content_body refl x

choices_body :
    IsBody (switched 6 oid_in id_signed_data signed_content_in other_content_in) spelled GoodChoice content_info
choices_body = switch_body 6 refl oid_in IsId oid oid_body id_signed_data refl refl (lit< tt) signed_content_in
    (λ v. el 0xa0 (el 0x30 (signed_data_parts v))) GoodSignedContent
    (one 0xa0 (one 0x30 signed_data full) full) signed_content_body refl
    other_content_in (λ y. el 0xa0 y) GoodOtherContent (one 0xa0 (opaques One full) full) other_content_body refl

choice_of : ContentInfoValue → Choice
choice_of (SignedContent v) = inl v
choice_of (OtherContent id content) = inr (id, content)

choice_there : (c : ContentInfoValue) → content_info_from (choice_of c) ≡ c
unfolding choice_of
choice_there (SignedContent v) = refl
choice_there (OtherContent id content) = refl

choice_back : (x : Choice) → choice_of (content_info_from x) ≡ x
unfolding choice_of
choice_back (inl v) = refl
choice_back (inr p) = refl

abbrev GoodInside : ContentInfoValue → Type 0
GoodInside c = GoodChoice (choice_of c)

same_content_info : (c : ContentInfoValue) → spelled (choice_of c) ≡ content_info_parts c
unfolding choice_of
same_content_info (SignedContent v) = refl
same_content_info (OtherContent id content) = refl

content_info_body : IsBody content_info_in content_info_parts GoodInside content_info
unfolding content_info_in
content_info_body =
    alike_body (λ c. spelled (choice_of c)) content_info_parts GoodInside GoodInside same_content_info (λ c h. h)
    (λ c h. h) content_info_in content_info
    (made_body content_info_from choice_of choice_there _ spelled GoodChoice content_info choices_body
    (λ x h. choice_back x))

content_info_good : (c : ContentInfoValue) → GoodInside c × HasLength (content_info_parts c) → GoodContentInfo c
unfolding choice_of
content_info_good (SignedContent v) h = (h.0.0, h.0.1, h.1)
content_info_good (OtherContent id content) h = (h.0.0, h.0.1, h.0.2.0, h.0.2.1, h.1)

good_content_info : (c : ContentInfoValue) → GoodContentInfo c → GoodInside c × HasLength (content_info_parts c)
unfolding choice_of
good_content_info (SignedContent v) h = ((h.0, h.1), h.2)
good_content_info (OtherContent id content) h = ((h.0, h.1, (h.2, h.3)), h.4)

file_body : IsBody (whole_of (within 0x30 content_info_in)) encoding GoodContentInfo (file content_info)
file_body =
    alike_body _ encoding _ GoodContentInfo (λ c. refl) content_info_good good_content_info _ (file content_info)
    (whole_body _ _ _ _ _ _
    (within_reader 0x30 refl content_info_in content_info_parts GoodInside content_info content_info_body) tt tt)

-- ---- the three laws of reading

pub content_takes : (bytes : List ℕ) (c : ContentInfoValue) → IsBytes bytes → content_info_at bytes ≡ Ok c
    → EncodesContentInfo bytes c
unfolding content_info_at
content_takes bytes c fits e = let t = file_body.takes (spot 0 bytes) c fits e in (t.1, t.0)

pub content_again : (bytes : List ℕ) (c : ContentInfoValue) → EncodesContentInfo bytes c → content_info_at bytes ≡ Ok c
unfolding content_info_at
content_again bytes c h = ap content_info_at h.0 ∙ file_body.again c 0 h.1

pub content_fault : (bytes : List ℕ) (f : Fault) → IsBytes bytes → content_info_at bytes ≡ Err f
    → Faults (file content_info) bytes f
unfolding content_info_at
content_fault bytes f fits e = file_body.faults (spot 0 bytes) f fits e

-- ---- the definitions agree

pub content_encodes : (bytes : List ℕ) (c : ContentInfoValue) → EncodesContentInfo bytes c
    → IsEncoding (file content_info) bytes
content_encodes bytes c h = subst (IsEncoding (file content_info)) (sym h.0) (file_body.encodes c h.1)

pub content_unique : (bytes : List ℕ) (c d : ContentInfoValue) → EncodesContentInfo bytes c → EncodesContentInfo bytes d
    → c ≡ d
content_unique bytes c d h k = ok_is c d (sym (content_again bytes c h) ∙ content_again bytes d k)

-- ---- a SignedData, and another type

pub other_never : (bytes : List ℕ) (v : SignedDataValue) (id content : List ℕ)
    → content_info_at bytes ≡ Ok (SignedContent v)
    → EncodesContentInfo bytes (OtherContent id content) → ⊥
other_never bytes v id content e h = let z = sym e ∙ content_again bytes (OtherContent id content) h in cc

pub signed_never : (bytes : List ℕ) (v : SignedDataValue) (id content : List ℕ)
    → content_info_at bytes ≡ Ok (OtherContent id content)
    → EncodesSignedData bytes v → ⊥
signed_never bytes v id content e h = let z = sym e ∙ content_again bytes (SignedContent v) h in cc

signed_same : (v w : SignedDataValue) → SignedContent v ≡ SignedContent w → v ≡ w
signed_same v w e = cc

pub signed_only : (bytes : List ℕ) (w : SignedDataValue) → content_info_at bytes ≡ Ok (SignedContent w)
    → (v : SignedDataValue)
    → EncodesSignedData bytes v → w ≡ v
signed_only bytes w e v h =
    signed_same w v (ok_is (SignedContent w) (SignedContent v) (sym e ∙ content_again bytes (SignedContent v) h))

pub nothing_encoded : (bytes : List ℕ) (f : Fault) → content_info_at bytes ≡ Err f → (c : ContentInfoValue)
    → EncodesContentInfo bytes c → ⊥
nothing_encoded bytes f e c h = let z = sym e ∙ content_again bytes c h in cc
