-- The time-stamp tokens of a signer (RFC 3161, appendix A).
use Rattle.std.specs.Prelude.{ℕ, Bool, List, [], ◌∷◌, filter, Option, Some, None}
use Rattle.std.specs.List.{flat_map}
use Rattle.der_core.specs.Lists.{is_same}
use Rattle.cms_types.specs.AttributeValue.{AttributeValue}

-- id-aa-timeStampToken, 1.2.840.113549.1.9.16.2.14
abbrev pub id_time_stamp_token : List ℕ
id_time_stamp_token = 0x2a ∷ 0x86 ∷ 0x48 ∷ 0x86 ∷ 0xf7 ∷ 0x0d ∷ 0x01 ∷ 0x09 ∷ 0x10 ∷ 0x02 ∷ 0x0e ∷ []

abbrev pub is_token : AttributeValue → Bool
is_token a = is_same a.id id_time_stamp_token

-- all values of all attributes of that type, in the order in which they occur
abbrev pub tokens_in : List AttributeValue → List (List ℕ)
tokens_in xs = flat_map (λ a. a.values) (filter is_token xs)

-- those of a signer's unsigned attributes
abbrev pub tokens_of : Option (List AttributeValue) → List (List ℕ)
tokens_of None = []
tokens_of (Some xs) = tokens_in xs
