-- The headers that limit what is kept of a file stand at open places of it.
use Rattle.std.proofs.Common.{ℕ, List, [], refl, sym, subst}
use Rattle.der_core.specs.Element.{IsBytes}
use Rattle.der_core.specs.Form.{Form, full, opaques, One}
use Rattle.der_core.specs.OpenFaults.{OpenPlace, ReachesOpenly, stays, open_start}
use Rattle.der_core.specs.Reading.{oid_in, version_in, within, maybe, ◌then◌}
use Rattle.der_core.specs.Grammar.{one, opt, list, oid, algorithm, version, file}
use Rattle.der_grammar.specs.Table.{encap, cert_choices, crl_choices, signer_infos, signed_data, content_info}
use Rattle.der_grammar.specs.Table.{id_signed_data}
use Rattle.der_core.proofs.ReadLengths.{IsBytes-drop}
use Rattle.der_core.proofs.Readers.{Anything}
use Rattle.der_core.proofs.PartReaders.{oid_body}
use Rattle.der_lists.specs.Checked.{tagged_in}
use Rattle.cms_types.specs.SignedDataValue.{certificate_tags, crl_tags}
use Rattle.cms_types.specs.SignedDataReading.{algorithms_in, encapsulated_in}
use Rattle.cms_stream_laws.specs.OpenReading.{OpenSpot, heading, kept}
use Rattle.cms_stream_laws.specs.OpenContentInfo.{signed_content_openly, other_content_openly, contents_of}
use Rattle.cms_stream_laws.specs.Laws.{IsAtSignedData, before_content, before_signers, ContentTypeIsStated}
use Rattle.cms_stream_laws.specs.Laws.{SignersAreStated}
use Rattle.cms_stream_laws.proofs.OpenLaws.{IsOpenReader, bytes_ahead, within_open, then_open, kept_open}
use Rattle.cms_stream_laws.proofs.OpenParts.{maybe_open}
use Rattle.cms_stream_laws.proofs.OpenContentInfos.{oid_open, encapsulated_open, algorithms_open}
use Rattle.cms_stream_laws.proofs.Opaques.{tagged_list_open}
use Rattle.cms_stream_laws.proofs.OpenSteps.{standing, enters_openly, bytes_within, inside_reached, states_here}
use Rattle.cms_stream_laws.proofs.FaultsShown.{ShowsFaults, within_shown, then_shown, switched_goes}
use Rattle.cms_stream_laws.proofs.ContentInfosShown.{versions, version_shown, algorithms_shown, certificates_then}
use Rattle.cms_stream_laws.proofs.ContentInfosShown.{maybe_crls_shown}
use Rattle.cms_stream_laws.proofs.ContentInfosShown.{signed_content_shown, other_content_shown, outer_reached}

-- the octets at the contents of the SignedData
at_bytes : (bytes : List ℕ) (w : OpenSpot) → IsBytes bytes → (a : IsAtSignedData bytes w)
    → IsBytes a.behind.rest × IsBytes a.outer.0.rest × IsBytes w.rest
at_bytes bytes w fits a =
    let b : IsBytes a.behind.rest = bytes_ahead (contents_of bytes a.size) a.behind
    ((within_open 6 oid_in (kept oid_in) oid_open).went (contents_of bytes a.size) (a.content_type, a.behind)
    (IsBytes-drop (heading a.size) bytes fits)
    a.first) (IsBytes-drop (heading a.size) bytes fits) in
    let o : IsBytes a.outer.0.rest =
    bytes_within 160 a.behind a.outer (enters_openly 0xa0 a.behind a.outer b a.explicit) b in
    let i : IsBytes a.inner.0.rest =
    bytes_within 48 a.outer.0 a.inner (enters_openly 0x30 a.outer.0 a.inner o a.enters) o in
    (b, o, subst (λ (v : OpenSpot). IsBytes v.rest) (sym a.is) i)

-- what is reached from there is reached from the front of the file
from_signed_data : (bytes : List ℕ) (w : OpenSpot) (q : OpenPlace) → IsBytes bytes → IsAtSignedData bytes w
    → ReachesOpenly (standing w signed_data []) q
    → ReachesOpenly (open_start (file content_info) bytes) q
from_signed_data bytes w q fits a r =
    let b = at_bytes bytes w fits a in
    let inner : ReachesOpenly (standing a.outer.0 (one 0x30 signed_data full) []) q =
    inside_reached (one 0x30 signed_data full) 48 a.outer.0 a.inner [] q refl
    (enters_openly 0x30 a.outer.0 a.inner b.1 a.enters)
    (subst (λ (v : OpenSpot). ReachesOpenly (standing v signed_data []) q) a.is r) in
    let outer : ReachesOpenly (standing a.behind (one 0xa0 (one 0x30 signed_data full) full) []) q =
    inside_reached (one 0xa0 (one 0x30 signed_data full) full) 160 a.behind a.outer [] q refl
    (enters_openly 0xa0 a.behind a.outer b.0 a.explicit) inner in
    let switched : ReachesOpenly (standing (contents_of bytes a.size) content_info []) q =
    switched_goes 6 oid_in _ oid oid_body id_signed_data signed_content_openly
    (one 0xa0 (one 0x30 signed_data full) full) refl signed_content_shown
    other_content_openly (one 0xa0 (opaques One full) full) refl other_content_shown
    (contents_of bytes a.size) (a.content_type, a.behind)
    (IsBytes-drop (heading a.size) bytes fits) a.first a.signed q outer in
    outer_reached bytes a.size q fits a.sequence a.states switched

-- ---- the parts before the content

content_open : IsOpenReader (within 0x02 (version_in versions) then within 0x31 algorithms_in) before_content
content_open =
    then_open _ _ (within_open 2 _ _ (kept_open (version_in versions))) _ _ (within_open 49 _ _ algorithms_open)

content_goes : ShowsFaults before_content (λ f. one 0x02 (version versions) (one 0x31 (list 0x30 algorithm) f)) Anything
content_goes =
    then_shown _ _ (within_open 2 _ _ (kept_open (version_in versions))) _
    (within_shown 2 _ _ (kept_open (version_in versions)) (version versions) version_shown) _ _ _
    (within_shown 49 _ _ algorithms_open (list 0x30 algorithm) algorithms_shown)

pub content_type_stated : ContentTypeIsStated
content_type_stated bytes w v p x y fits a e f g =
    let b = at_bytes bytes w fits a in
    let there : IsBytes v.rest = bytes_ahead w v (content_open.went w (p, v) b.2 e) b.2 in
    let k = enters_openly 0x30 v x there f in
    let q : OpenPlace = standing x.0 encap [] in
    let due : Form = opt 0xa0 cert_choices (opt 0xa1 crl_choices signer_infos) in
    let here : ReachesOpenly (standing v (one 0x30 encap due) []) q =
    inside_reached (one 0x30 encap due) 48 v x [] q refl k stays in (
      q,
      from_signed_data bytes w q fits a (content_goes.goes w (p, v) b.2 e (one 0x30 encap due) q here),
      refl,
      states_here encap 6 x.0 y [] refl
          (enters_openly 0x06 x.0 y (bytes_within 48 v x k there) g),
    )

-- ---- the parts before the signers

signers_open :
    IsOpenReader (within 0x02 (version_in versions) then within 0x31 algorithms_in then within 0x30 encapsulated_in
    then maybe 0xa0 (tagged_in certificate_tags) then maybe 0xa1 (tagged_in crl_tags)) before_signers
signers_open = then_open _ _ (within_open 2 _ _ (kept_open (version_in versions))) _ _
    (then_open _ _ (within_open 49 _ _ algorithms_open) _ _
    (then_open _ _ (within_open 48 _ _ encapsulated_open) _ _
    (then_open _ _ (maybe_open 160 _ _ (tagged_list_open certificate_tags)) _ _
    (maybe_open 161 _ _ (tagged_list_open crl_tags)))))

signers_goes : ShowsFaults before_signers
    (λ f. one 0x02 (version versions)
    (one 0x31 (list 0x30 algorithm) (one 0x30 encap (opt 0xa0 cert_choices (opt 0xa1 crl_choices f))))) Anything
signers_goes = certificates_then _ _ _ maybe_crls_shown

pub signers_stated : SignersAreStated
signers_stated bytes w v p y fits a e f =
    let b = at_bytes bytes w fits a in
    let there : IsBytes v.rest = bytes_ahead w v (signers_open.went w (p, v) b.2 e) b.2 in
    let q : OpenPlace = standing v signer_infos [] in (
      q,
      from_signed_data bytes w q fits a (signers_goes.goes w (p, v) b.2 e signer_infos q stays),
      refl,
      states_here signer_infos 49 v y [] refl
          (enters_openly 0x31 v y there f),
    )
