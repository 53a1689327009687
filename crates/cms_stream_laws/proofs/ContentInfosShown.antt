-- Each fault of the open reading of a ContentInfo is met at an open place, and so is each of a file.
use Rattle.std.proofs.Common.{◌≡◌, ℕ, ◌+◌, false, List, [], ◌∷◌, ◌++◌, take, drop, Some, None, Ok, refl, sym, ap, subst}
use Rattle.std.proofs.Common.{◌∙◌, arith, inl, inr}
use Rattle.std.proofs.lemmas.List.{drop_at, length-drop}
use Rattle.der_core.specs.Element.{len, IsBytes}
use Rattle.der_core.specs.AlgorithmReading.{algorithm_from, algorithm_in}
use Rattle.der_core.specs.Form.{Form, opaque, opaques, full, One}
use Rattle.der_core.specs.OpenFaults.{OpenPlace, open_place, ReachesOpenly, enters, open_start}
use Rattle.der_core.specs.Reading.{any_at, oid_in, version_in, is_other}
use Rattle.der_core.specs.Results.{◌>>=◌}
use Rattle.der_core.specs.Grammar.{one, opt, list, oid, algorithm, version, file}
use Rattle.der_grammar.specs.Table.{encap, cert_choices, crl_choices, signer_info, signed_data, content_info}
use Rattle.der_grammar.specs.Table.{id_signed_data}
use Rattle.der_core.proofs.ReadLengths.{IsBytes-drop}
use Rattle.der_core.proofs.Results.{bind_err}
use Rattle.der_core.proofs.Readers.{any_body, Anything}
use Rattle.der_core.proofs.PartReaders.{oid_body, version_body}
use Rattle.cms_types.specs.SignedDataValue.{certificate_tags, crl_tags}
use Rattle.cms_types.specs.SignedDataReading.{explicit_octets_in, encapsulated_from, signers_in, signed_data_from}
use Rattle.cms_types.specs.SignedDataReading.{content_info_from}
use Rattle.cms_types.proofs.SignedDataReaders.{content_fault}
use Rattle.cms_types.proofs.SignerReaders.{signers_body}
use Rattle.cms_stream_laws.specs.OpenReading.{OpenReader, open_spot, length_in, heading, kept, within_openly}
use Rattle.cms_stream_laws.specs.OpenReading.{◌then_openly◌, maybe_openly}
use Rattle.cms_stream_laws.specs.OpenContentInfo.{explicit_octets_openly, encapsulated_openly, algorithm_openly}
use Rattle.cms_stream_laws.specs.OpenContentInfo.{algorithms_openly, certificates_openly}
use Rattle.cms_stream_laws.specs.OpenContentInfo.{crls_openly, explicit_opaque_openly, signed_data_openly}
use Rattle.cms_stream_laws.specs.OpenContentInfo.{explicit_signed_data_openly, signed_content_openly}
use Rattle.cms_stream_laws.specs.OpenContentInfo.{other_content_openly, content_info_openly, contents_of, file_end}
use Rattle.cms_stream_laws.specs.Laws.{FaultsHoldOpenly}
use Rattle.cms_stream_laws.proofs.OpenLaws.{length_there, within_open, kept_open}
use Rattle.cms_stream_laws.proofs.OpenParts.{maybe_open}
use Rattle.cms_stream_laws.proofs.OpenContentInfos.{explicit_octets_open, oid_open, encapsulated_open, algorithm_open}
use Rattle.cms_stream_laws.proofs.OpenContentInfos.{algorithms_open, explicit_opaque_open}
use Rattle.cms_stream_laws.proofs.OpenContentInfos.{signed_data_open, explicit_signed_data_open, content_info_open}
use Rattle.cms_stream_laws.proofs.Opaques.{tagged_list_open}
use Rattle.cms_stream_laws.proofs.OpaquesShown.{opaque_shown, optional_shown, tagged_list_shown}
use Rattle.cms_stream_laws.proofs.OpenSteps.{standing, headed, front_is}
use Rattle.cms_stream_laws.proofs.FaultsShown.{ShowsInside, ShowsFaults, kept_shown, within_shown, maybe_shown}
use Rattle.cms_stream_laws.proofs.FaultsShown.{last_shown}
use Rattle.cms_stream_laws.proofs.FaultsShown.{many_shown, then_shown, whole_shown, made_shown}
use Rattle.cms_stream_laws.proofs.FaultsShown.{switched_shown}
use Rattle.cms_stream_laws.proofs.WholeFiles.{failing, opened, read_alike}

abbrev pub versions : List ℕ
versions = 1 ∷ 3 ∷ 4 ∷ 5 ∷ []

explicit_octets_shown : ShowsInside explicit_octets_openly (one 0x04 opaque full)
unfolding explicit_octets_openly
explicit_octets_shown = whole_shown _ _ _
    (within_shown 4 any_at (kept any_at) (kept_open any_at) opaque (kept_shown any_at _ _ opaque any_body)) tt

pub oid_shown : ShowsInside (kept oid_in) oid
oid_shown = kept_shown oid_in _ _ oid oid_body

pub encapsulated_shown : ShowsInside encapsulated_openly encap
unfolding encapsulated_openly
encapsulated_shown = made_shown encapsulated_from _ encap (whole_shown _ _ _
    (then_shown _ _ (within_open 6 oid_in (kept oid_in) oid_open) _
    (within_shown 6 oid_in (kept oid_in) oid_open oid oid_shown) _ _ _
    (last_shown 160 explicit_octets_in explicit_octets_openly explicit_octets_open
    (one 0x04 opaque full) explicit_octets_shown)) refl)

algorithm_shown : ShowsInside algorithm_openly algorithm
unfolding algorithm_openly
algorithm_shown = made_shown algorithm_from _ algorithm (whole_shown _ _ _
    (then_shown _ _ (within_open 6 oid_in (kept oid_in) oid_open) _
    (within_shown 6 oid_in (kept oid_in) oid_open oid oid_shown) _ _ _ optional_shown) tt)

pub algorithms_shown : ShowsInside algorithms_openly (list 0x30 algorithm)
algorithms_shown = many_shown 48 algorithm_in algorithm_openly algorithm_open algorithm algorithm_shown

certificates_shown : ShowsInside certificates_openly cert_choices
certificates_shown = tagged_list_shown certificate_tags

crls_shown : ShowsInside crls_openly crl_choices
crls_shown = tagged_list_shown crl_tags

pub signers_shown : ShowsInside (kept signers_in) (list 0x30 signer_info)
signers_shown = kept_shown signers_in _ _ (list 0x30 signer_info) signers_body

pub version_shown : ShowsInside (kept (version_in versions)) (version versions)
version_shown = kept_shown (version_in versions) _ _ (version versions) (version_body versions)

-- the parts up to the certificates, and those after them
pub certificates_then : {A : Type 0} (rest : OpenReader A) (due : Form → Form) (Before : Form → Type 0)
    → ShowsFaults rest due Before
    → ShowsFaults (within_openly 0x02 (kept (version_in versions)) then_openly within_openly 0x31 algorithms_openly
    then_openly within_openly 0x30 encapsulated_openly then_openly maybe_openly 0xa0 certificates_openly
    then_openly rest)
    (λ f. one 0x02 (version versions) (one 0x31 (list 0x30 algorithm) (one 0x30 encap (opt 0xa0 cert_choices (due f)))))
    Before
certificates_then rest due Before shows =
    then_shown _ _ (within_open 2 _ _ (kept_open (version_in versions))) _
    (within_shown 2 _ _ (kept_open (version_in versions)) (version versions) version_shown) _ _ _
    (then_shown _ _ (within_open 49 _ _ algorithms_open) _
    (within_shown 49 _ _ algorithms_open (list 0x30 algorithm) algorithms_shown) _ _ _
    (then_shown _ _ (within_open 48 _ _ encapsulated_open) _
    (within_shown 48 _ _ encapsulated_open encap encapsulated_shown) _ _ _
    (then_shown _ _ (maybe_open 160 _ _ (tagged_list_open certificate_tags)) _
    (maybe_shown 160 _ _ (tagged_list_open certificate_tags) cert_choices certificates_shown) rest due Before shows)))

pub maybe_crls_shown : ShowsFaults (maybe_openly 0xa1 crls_openly) (opt 0xa1 crl_choices) Anything
maybe_crls_shown = maybe_shown 161 _ _ (tagged_list_open crl_tags) crl_choices crls_shown

pub signed_data_shown : ShowsInside signed_data_openly signed_data
unfolding signed_data_openly
signed_data_shown = made_shown signed_data_from _ signed_data (whole_shown _ _ _
    (certificates_then _ _ _
    (then_shown _ _ (maybe_open 161 _ _ (tagged_list_open crl_tags)) _ maybe_crls_shown _ _ _
    (within_shown 49 _ _ (kept_open signers_in) (list 0x30 signer_info) signers_shown))) tt)

explicit_signed_data_shown : ShowsInside explicit_signed_data_openly (one 0x30 signed_data full)
unfolding explicit_signed_data_openly
explicit_signed_data_shown = whole_shown _ _ _ (within_shown 48 _ _ signed_data_open signed_data signed_data_shown) tt

pub signed_content_shown : ShowsInside signed_content_openly (one 0xa0 (one 0x30 signed_data full) full)
unfolding signed_content_openly
signed_content_shown = whole_shown _ _ _
    (within_shown 160 _ _ explicit_signed_data_open (one 0x30 signed_data full) explicit_signed_data_shown) tt

explicit_opaque_shown : ShowsInside explicit_opaque_openly (opaques One full)
unfolding explicit_opaque_openly
explicit_opaque_shown = whole_shown _ _ _ opaque_shown tt

pub other_content_shown : ShowsInside other_content_openly (one 0xa0 (opaques One full) full)
unfolding other_content_openly
other_content_shown =
    whole_shown _ _ _ (within_shown 160 _ _ explicit_opaque_open (opaques One full) explicit_opaque_shown) tt

content_info_shown : ShowsInside content_info_openly content_info
unfolding content_info_openly
content_info_shown = made_shown content_info_from _ content_info
    (switched_shown 6 oid_in _ oid oid_body id_signed_data _
    (one 0xa0 (one 0x30 signed_data full) full) refl signed_content_shown _
    (one 0xa0 (opaques One full) full) refl other_content_shown)

-- ---- a file

-- what is reached from the contents of the outermost element is reached from the front
pub outer_reached : (bytes : List ℕ) (l : ℕ) (q : OpenPlace) → IsBytes bytes → is_other 0x30 bytes ≡ false
    → length_in (open_spot 0 0 bytes) bytes ≡ Ok l
    → ReachesOpenly (standing (contents_of bytes l) content_info []) q
    → ReachesOpenly (open_start (file content_info) bytes) q
outer_reached bytes l q fits other size h =
    let k = headed (open_spot 0 0 bytes) bytes l fits size in
    let tag-is : k.tag ≡ 48 = front_is 48 k.tag (len l ++ k.beyond) k.identifier
    (subst (λ (xs : List ℕ). is_other 0x30 xs ≡ false) k.spelled other) in
    let spelled : bytes ≡ 48 ∷ (len l ++ k.beyond) =
    subst (λ (t : ℕ). bytes ≡ t ∷ (len l ++ k.beyond)) tag-is k.spelled in
    let beyond : drop (heading l) bytes ≡ k.beyond = ap (drop (heading l)) spelled
    ∙ drop_at (48 ∷ len l) k.beyond (heading l) (omega arith) in
    let at : heading l ≡ 0 + heading l = omega arith in
    let a : ReachesOpenly (open_place (heading l) (take l k.beyond) (Some l) content_info []) q = subst
    (λ (ys : List ℕ). ReachesOpenly (open_place (heading l) (take l ys) (Some l) content_info []) q) beyond h in
    let b : ReachesOpenly (open_place (0 + heading l) (take l k.beyond) (Some l) content_info []) q = subst
    (λ (n : ℕ). ReachesOpenly (open_place n (take l k.beyond) (Some l) content_info []) q) at a in
    subst (λ (xs : List ℕ). ReachesOpenly (open_place 0 xs None (file content_info) []) q) (sym spelled)
    (enters {q = q} 48 l k.beyond refl k.fits refl tt b)

pub faults_openly : FaultsHoldOpenly
faults_openly bytes f fits e = elim (read_alike bytes fits) [
  | inl same ↦ inl (content_fault bytes f fits (sym same ∙ e))
  | inr k ↦
      let l : ℕ = k.size in
      let e' : (content_info_openly (contents_of bytes l) >>= file_end bytes l) ≡ failing f =
      sym (opened bytes l k.cut.sequence k.cut.states) ∙ e in
      elim (bind_err (content_info_openly (contents_of bytes l)) (file_end bytes l) f e') [
        | inl a ↦ elim (content_info_shown.faults (contents_of bytes l) f (IsBytes-drop (heading l) bytes fits) a) [
          | inl is ↦ inl (content_fault bytes f fits (k.slice ∙ ap failing (sym is)))
          | inr h ↦ inr (h.0, outer_reached bytes l h.0 fits k.cut.sequence k.cut.states h.1, h.2)
        ]
        | inr a ↦ absurd (
            let met = content_info_open.met (contents_of bytes l) a.0 (IsBytes-drop (heading l) bytes fits) a.1 in
            let there = length_there (open_spot 0 0 bytes) bytes l fits k.cut.states in
            let short = k.cut.short in
            omega (arith, met, there, short, length-drop (heading l) bytes)
            )
      ]
]
