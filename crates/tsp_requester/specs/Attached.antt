-- A SignedData with a time-stamp token attached to one of its signers (RFC 3161, appendix A; RFC 5652, 5.3).
use Rattle.std.specs.Prelude.{ℕ, zero, suc, List, [], ◌∷◌, ◌++◌, map, take, drop, Option, Some, None}
use Rattle.der_core.specs.Element.{el}
use Rattle.cms_types.specs.AttributeValue.{AttributeValue, joined, attribute_parts, attributes_parts}
use Rattle.cms_types.specs.SignerValue.{SignerValue, signer_parts}
use Rattle.cms_types.specs.SignedDataValue.{SignedDataValue, SignedContent, signers_parts, signed_data_parts}
use Rattle.cms_types.specs.SignedDataValue.{content_info_parts}
use Rattle.cms_types.specs.Tokens.{id_time_stamp_token}

-- id-aa-timeStampToken, with the token as its only value
abbrev pub token_attribute : List ℕ → AttributeValue
token_attribute token = record { id = id_time_stamp_token; values = token ∷ [] }

-- with this attribute after those that are present; a new list if there are none
abbrev pub with_attribute : AttributeValue → Option (List AttributeValue) → List AttributeValue
with_attribute a None = a ∷ []
with_attribute a (Some xs) = xs ++ a ∷ []

-- a signer with the token in its unsigned attributes; all else is unchanged
abbrev pub stamped : (token : List ℕ) → SignerValue → SignerValue
stamped token s = record s { unsigned_attributes = Some (with_attribute (token_attribute token) s.unsigned_attributes) }

-- the items before the one of this number, counted from 1, that item changed, and those after it
abbrev pub changed : {A : Type 0} → (A → A) → List A → ℕ → List A
changed f xs zero = xs
changed f xs (suc n) = take n xs ++ (map f (take 1 (drop n xs)) ++ drop 1 (drop n xs))

-- the SignedData with the token attached to the signer of this number; all else is unchanged, in its place and order
abbrev pub attached : SignedDataValue → (number : ℕ) → (token : List ℕ) → SignedDataValue
attached v number token = record v { signers = changed (stamped token) v.signers number }

-- ---- lengths

-- the contents of the elements that are new in an attribute: of its values, and of the attribute
abbrev pub attribute_contents : (token : List ℕ) → List (List ℕ)
attribute_contents token = joined (token ∷ []) ∷ attribute_parts (token_attribute token) ∷ []

-- those that change in a signer: of its unsigned attributes, and of the signer
abbrev pub signer_contents : SignerValue → (token : List ℕ) → List (List ℕ)
signer_contents s token = attributes_parts (with_attribute (token_attribute token) s.unsigned_attributes)
    ∷ signer_parts (stamped token s) ∷ []

-- those that then change in a ContentInfo: of the signers, the SignedData, what holds it, and the ContentInfo
abbrev pub file_contents : SignedDataValue → List (List ℕ)
file_contents w = signers_parts w.signers ∷ signed_data_parts w ∷ el 0x30
    (signed_data_parts w) ∷ content_info_parts (SignedContent w) ∷ []

-- all of them, from the inside
abbrev pub new_contents : SignedDataValue → (number : ℕ) → SignerValue → (token : List ℕ) → List (List ℕ)
new_contents v number s token = attribute_contents token
    ++ (signer_contents s token ++ file_contents (attached v number token))
