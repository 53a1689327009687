-- The archive time-stamps of a record of octets have time-stamps of octets.
use Rattle.std.proofs.Common.{ℕ, List, [], ◌∷◌, ◌++◌, refl, subst}
use Rattle.std.specs.List.{flat_map, AllByRecursion}
use Rattle.std.proofs.lemmas.List.Concat.{flat_map-cons}
use Rattle.der_core.specs.Element.{el, IsBytes}
use Rattle.cms_types.specs.AttributeValue.{optional_attributes}
use Rattle.cms_types.specs.SignedDataValue.{algorithms_parts}
use Rattle.check_fit.proofs.Octets.{front, back, body}
use Rattle.evidence_types.specs.StampValue.{StampValue, optional_algorithm, optional_hash_lists, stamp_parts}
use Rattle.evidence_types.specs.StampValue.{stamp_element}
use Rattle.evidence_types.specs.EvidenceValue.{chain_parts, chain_element, chains_parts, optional_encryption}
use Rattle.evidence_types.specs.EvidenceValue.{EvidenceValue, evidence_parts, EncodesEvidence}

abbrev pub StampOctets : StampValue → Type 0
StampOctets s = IsBytes s.stamp

stamp_octets : (s : StampValue) → IsBytes (stamp_element s) → StampOctets s
stamp_octets s h =
    let p1 = back (optional_algorithm 0xa0 s.algorithm) _ (body 0x30 (stamp_parts s) h) in
    let p2 = back (optional_attributes 0xa1 s.attributes) _ p1 in
    back (optional_hash_lists 0xa2 s.lists) s.stamp p2

-- what is known of each of the octets of elements one after the other
each : {X : Type 0} (f : X → List ℕ) (P : X → Type 0) → ((x : X) → IsBytes (f x) → P x) → (xs : List X)
    → IsBytes (flat_map f xs) → AllByRecursion P xs
each f P known [] h = tt
each f P known (x ∷ xs) h =
    let g : IsBytes (f x ++ flat_map f xs) = subst IsBytes (flat_map-cons f x xs) h in
    (known x (front (f x) (flat_map f xs) g), each f P known xs (back (f x) (flat_map f xs) g))

chain_octets : (stamps : List StampValue) → IsBytes (chain_element stamps) → AllByRecursion StampOctets stamps
chain_octets stamps h = each stamp_element StampOctets stamp_octets stamps (body 0x30 (chain_parts stamps) h)

pub chains_octets : (octets : List ℕ) (v : EvidenceValue) → EncodesEvidence octets v → IsBytes octets
    → AllByRecursion (AllByRecursion StampOctets) v.chains
chains_octets octets v encodes h =
    let parts = body 0x30 (evidence_parts v) (subst IsBytes encodes.0 h) in
    let p1 = back (el 0x02 (1 ∷ [])) _ parts in
    let p2 = back (el 0x30 (algorithms_parts v.algorithms)) _ p1 in
    let p3 = back (optional_attributes 0xa0 v.crypto_infos) _ p2 in
    let p4 = back (optional_encryption 0xa1 v.encryption) _ p3 in
    each chain_element (AllByRecursion StampOctets) chain_octets v.chains (body 0x30 (chains_parts v.chains) p4)
