-- The SignedData with a token, in pieces.
use Rattle.std.proofs.Common.{◌≡◌, ℕ, suc, ◌-◌, ◌<◌, List, [], ◌∷◌, ◌++◌, map, take, drop, Option, Some, None, sym, ap}
use Rattle.std.proofs.Common.{subst, ◌∙◌, append-nil, arith}
use Rattle.std.specs.List.{AllByRecursion}
use Rattle.std.proofs.lemmas.Grind.{flat_map-append}
use Rattle.std.proofs.lemmas.List.Concat.{flat_map-cons}
use Rattle.der_core.specs.Element.{el}
use Rattle.der_grammar.specs.Table.{id_signed_data}
use Rattle.der_core.specs.Values.{HasLength}
use Rattle.der_core.proofs.Lengths.{len_0}
use Rattle.cms_types.specs.AttributeValue.{AttributeValue, joined, attribute_parts, attribute_element, attributes_parts}
use Rattle.cms_types.specs.SignerValue.{SignerValue, signer_parts, signer_element}
use Rattle.cms_types.specs.SignedDataValue.{SignedDataValue, SignedContent, encoding, signers_parts, signed_data_parts}
use Rattle.cms_types.specs.SignedDataValue.{content_info_parts}
use Rattle.cms_types.specs.Tokens.{id_time_stamp_token}
use Rattle.tsp_requester.specs.Attached.{token_attribute, with_attribute, stamped, changed, attached, new_contents}
use Rattle.tsp_requester.specs.Attaching.{HaveLengths}
use Rattle.tsp_requester.specs.Pieces.{PiecesValue, pieces_of, unsigned_octets, signer_front, data_front, stamp_id}
use Rattle.tsp_requester.specs.Pieces.{data_id, attribute_inside, unsigned_inside}
use Rattle.tsp_requester.specs.Pieces.{signer_inside, signers_inside, data_inside, info_inside, all_inside, file_of}
use Rattle.tsp_requester.specs.Pieces.{FitInside}
use Rattle.tsp_requester.proofs.Cutting.{data_parts_are, signer_parts_are}

joined_is : (token : List ℕ) → joined (token ∷ []) ≡ token
joined_is token = flat_map-cons (λ (x : List ℕ). x) token [] ∙ append-nil token

stamp_id_is : el 0x06 id_time_stamp_token ≡ stamp_id
stamp_id_is = ap (λ (l : List ℕ). 0x06 ∷ (l ++ id_time_stamp_token)) (len_0 11 (omega arith))

data_id_is : el 0x06 id_signed_data ≡ data_id
data_id_is = ap (λ (l : List ℕ). 0x06 ∷ (l ++ id_signed_data)) (len_0 9 (omega arith))

attribute_is : (token : List ℕ) → attribute_parts (token_attribute token) ≡ attribute_inside token
attribute_is token = ap (λ (l : List ℕ). l ++ el 0x31 (joined (token ∷ []))) stamp_id_is
    ∙ ap (λ (b : List ℕ). stamp_id ++ el 0x31 b) (joined_is token)

element_is : (token : List ℕ) → attribute_element (token_attribute token) ≡ el 0x30 (attribute_inside token)
element_is token = ap (λ (b : List ℕ). el 0x30 b) (attribute_is token)

one_is : (token : List ℕ) → attributes_parts (token_attribute token ∷ []) ≡ el 0x30 (attribute_inside token)
one_is token = flat_map-cons attribute_element (token_attribute token) []
    ∙ append-nil (attribute_element (token_attribute token)) ∙ element_is token

-- the attribute comes after those that are there
attributes_are : (u : Option (List AttributeValue)) (token : List ℕ)
    → attributes_parts (with_attribute (token_attribute token) u)
    ≡ unsigned_octets u ++ el 0x30 (attribute_inside token)
attributes_are None token = one_is token
attributes_are (Some xs) token = flat_map-append attribute_element xs (token_attribute token ∷ [])
    ∙ ap (λ (l : List ℕ). attributes_parts xs ++ l) (one_is token)

abbrev P : SignedDataValue → ℕ → SignerValue → PiecesValue
P v number s = pieces_of v number s

unsigned_is : (v : SignedDataValue) (number : ℕ) (s : SignerValue) (token : List ℕ)
    → attributes_parts (with_attribute (token_attribute token) s.unsigned_attributes)
    ≡ unsigned_inside (P v number s) token
unsigned_is v number s token = attributes_are s.unsigned_attributes token

signer_is : (v : SignedDataValue) (number : ℕ) (s : SignerValue) (token : List ℕ)
    → signer_parts (stamped token s) ≡ signer_inside (P v number s) token
signer_is v number s token =
    signer_parts_are (stamped token s) ∙ ap (λ (b : List ℕ). signer_front s ++ el 0xa1 b) (unsigned_is v number s token)

-- the signers with the one that is stamped
changed_is : (ss : List SignerValue) (n : ℕ) (s : SignerValue) (others : List SignerValue) (token : List ℕ)
    → drop n ss ≡ s ∷ others
    → signers_parts (changed (stamped token) ss (suc n))
    ≡ signers_parts (take n ss) ++ (signer_element (stamped token s) ++ signers_parts (drop 1 (drop n ss)))
changed_is ss n s others token e =
    let t : SignerValue = stamped token s in
    let f : map (stamped token) (take 1 (drop n ss)) ++ drop 1 (drop n ss) ≡ t ∷ drop 1 (drop n ss) =
    ap (λ (l : List SignerValue). map (stamped token) (take 1 l) ++ drop 1 (drop n ss)) e in
    ap (λ (l : List SignerValue). signers_parts (take n ss ++ l)) f
    ∙ flat_map-append signer_element (take n ss) (t ∷ drop 1 (drop n ss))
    ∙ ap (λ (l : List ℕ). signers_parts (take n ss) ++ l) (flat_map-cons signer_element t (drop 1 (drop n ss)))

abbrev Place : SignedDataValue → ℕ → SignerValue → Type 0
Place v number s = (0 < number) × ((others : List SignerValue) × (drop (number - 1) v.signers ≡ s ∷ others))

signers_are : (v : SignedDataValue) (number : ℕ) (s : SignerValue) (token : List ℕ) → Place v number s
    → signers_parts (attached v number token).signers ≡ signers_inside (P v number s) token
signers_are v number s token place =
    let n : suc (number - 1) ≡ number = omega (arith, place.0) in
    ap (λ (m : ℕ). signers_parts (changed (stamped token) v.signers m)) (sym n)
    ∙ changed_is v.signers (number - 1) s place.1.0 token place.1.1
    ∙ ap (λ (b : List ℕ). (P v number s).before ++ (el 0x30 b ++ (P v number s).behind)) (signer_is v number s token)

data_parts_is : (v : SignedDataValue) (number : ℕ) (s : SignerValue) (token : List ℕ) → Place v number s
    → signed_data_parts (attached v number token) ≡ data_inside (P v number s) token
data_parts_is v number s token place =
    data_parts_are (attached v number token) ∙ ap (λ (b : List ℕ). data_front v ++ el 0x31 b)
    (signers_are v number s token place)

info_is : (v : SignedDataValue) (number : ℕ) (s : SignerValue) (token : List ℕ) → Place v number s
    → content_info_parts (SignedContent (attached v number token)) ≡ info_inside (P v number s) token
info_is v number s token place =
    ap (λ (l : List ℕ). l ++ el 0xa0 (el 0x30 (signed_data_parts (attached v number token)))) data_id_is
    ∙ ap (λ (b : List ℕ). data_id ++ el 0xa0 (el 0x30 b)) (data_parts_is v number s token place)

-- so the new file is in pieces of the old one
pub file_is : (v : SignedDataValue) (number : ℕ) (s : SignerValue) (token : List ℕ) → Place v number s
    → file_of (pieces_of v number s) token ≡ encoding (SignedContent (attached v number token))
file_is v number s token place = sym (ap (λ (b : List ℕ). el 0x30 b) (info_is v number s token place))

-- and its new lengths are those of the elements round the token
pub contents_are : (v : SignedDataValue) (number : ℕ) (s : SignerValue) (token : List ℕ) → Place v number s
    → new_contents v number s token ≡ all_inside (pieces_of v number s) token
contents_are v number s token place =
    λ i. joined_is token i ∷ attribute_is token i ∷ unsigned_is v number s token i ∷ signer_is v number s token i
    ∷ signers_are v number s token place
    i ∷ data_parts_is v number s token place i ∷ el 0x30 (data_parts_is v number s token place i)
    ∷ info_is v number s token place i ∷ []

pub lengths_fit : (v : SignedDataValue) (number : ℕ) (s : SignerValue) (token : List ℕ) → Place v number s
    → FitInside (pieces_of v number s) token
    → HaveLengths v number s token
lengths_fit v number s token place h = subst (AllByRecursion HasLength) (sym (contents_are v number s token place)) h

pub fit_lengths : (v : SignedDataValue) (number : ℕ) (s : SignerValue) (token : List ℕ) → Place v number s
    → HaveLengths v number s token
    → FitInside (pieces_of v number s) token
fit_lengths v number s token place h = subst (AllByRecursion HasLength) (contents_are v number s token place) h
