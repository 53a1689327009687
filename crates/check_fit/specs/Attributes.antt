-- An attribute that occurs once with one value (RFC 5652, 11.1 and 11.2).
use Rattle.std.specs.Prelude.{ℕ, Bool, ◌&&◌, List, filter, length, nat_lt, ◌^◌, Option}
use Rattle.std.specs.Option.{option_and_then}
use Rattle.der_core.specs.Element.{el}
use Rattle.der_core.specs.Lists.{only, is_same}
use Rattle.cms_types.specs.AttributeValue.{AttributeValue}

-- the attributes of this type
abbrev pub occurrences : List AttributeValue → List ℕ → List AttributeValue
occurrences attributes id = filter (λ a. is_same a.id id) attributes

-- the value of the attribute of this type, if exactly one attribute has this type and it has exactly one value
abbrev pub single_value : List AttributeValue → List ℕ → Option (List ℕ)
single_value attributes id = option_and_then (λ a. only a.values) (only (occurrences attributes id))

-- it is the element with this identifier and these contents
abbrev pub is_element_of : ℕ → List ℕ → List ℕ → Bool
is_element_of t b x = nat_lt (length b) (2 ^ 32) && is_same x (el t b)
