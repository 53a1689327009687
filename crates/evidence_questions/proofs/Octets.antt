-- The time-stamps of a record that is octets are octets.
use Rattle.std.proofs.Common.{ℕ, List, [], ◌∷◌, ◌++◌, refl, subst}
use Rattle.std.specs.List.{AllByRecursion}
use Rattle.std.proofs.lemmas.List.Concat.{flat_map-cons}
use Rattle.der_core.specs.Element.{el, IsBytes}
use Rattle.cms_types.specs.AttributeValue.{optional_attributes}
use Rattle.cms_types.specs.SignedDataValue.{algorithms_parts}
use Rattle.check_fit.proofs.Octets.{front, back, body}
use Rattle.evidence_types.specs.StampValue.{StampValue, optional_algorithm, optional_hash_lists, stamp_parts}
use Rattle.evidence_types.specs.StampValue.{stamp_element}
use Rattle.evidence_types.specs.EvidenceValue.{EvidenceValue, EncodesEvidence, optional_encryption, evidence_parts}
use Rattle.evidence_types.specs.EvidenceValue.{chain_parts, chain_element, chains_parts}
use Rattle.check_evidence.specs.Places.{stamps_of}

of_stamp : (s : StampValue) → IsBytes (stamp_element s) → IsBytes s.stamp
of_stamp s h =
    let p = body 0x30 (stamp_parts s) h in
    let p1 = back (optional_algorithm 0xa0 s.algorithm) _ p in
    let p2 = back (optional_attributes 0xa1 s.attributes) _ p1 in
    back (optional_hash_lists 0xa2 s.lists) s.stamp p2

-- the time-stamp of each is octets
abbrev pub StampsAreOctets : List StampValue → Type 0
StampsAreOctets stamps = AllByRecursion (λ (s : StampValue). IsBytes s.stamp) stamps

of_chain : (stamps : List StampValue) → IsBytes (chain_parts stamps) → StampsAreOctets stamps
of_chain [] h = tt
of_chain (s ∷ stamps) h =
    let g : IsBytes (stamp_element s ++ chain_parts stamps) = subst IsBytes (flat_map-cons stamp_element s stamps) h in
    (of_stamp s (front (stamp_element s) _ g), of_chain stamps (back (stamp_element s) _ g))

both : (xs ys : List StampValue) → StampsAreOctets xs → StampsAreOctets ys → StampsAreOctets (xs ++ ys)
both [] ys h g = g
both (x ∷ xs) ys h g = (h.0, both xs ys h.1 g)

of_chains : (chains : List (List StampValue)) → IsBytes (chains_parts chains) → StampsAreOctets (stamps_of chains)
of_chains [] h = tt
of_chains (c ∷ chains) h =
    let g : IsBytes (chain_element c ++ chains_parts chains) = subst IsBytes (flat_map-cons chain_element c chains) h in
    subst StampsAreOctets (flat_map-cons (λ (x : List StampValue). x) c chains)
    (both c (stamps_of chains) (of_chain c (body 0x30 (chain_parts c) (front (chain_element c) _ g)))
    (of_chains chains (back (chain_element c) _ g)))

-- those of a record
pub record_octets : (octets : List ℕ) (v : EvidenceValue) → IsBytes octets → EncodesEvidence octets v
    → StampsAreOctets (stamps_of v.chains)
record_octets octets v h encodes =
    let p = body 0x30 (evidence_parts v) (subst IsBytes encodes.0 h) in
    let p1 = back (el 0x02 (1 ∷ [])) _ p in
    let p2 = back (el 0x30 (algorithms_parts v.algorithms)) _ p1 in
    let p3 = back (optional_attributes 0xa0 v.crypto_infos) _ p2 in
    let p4 = back (optional_encryption 0xa1 v.encryption) (el 0x30 (chains_parts v.chains)) p3 in
    of_chains v.chains (body 0x30 (chains_parts v.chains) p4)
