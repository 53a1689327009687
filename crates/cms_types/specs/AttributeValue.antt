-- Attributes and their encoding (RFC 5652, 5.3), and which octets of them are signed (RFC 5652, 5.4).
use Rattle.std.specs.Prelude.{◌≢◌, ℕ, List, [], ◌++◌, map, drop, Option, Some, None}
use Rattle.std.specs.List.{flat_map, AllByRecursion}
use Rattle.der_core.specs.Element.{el}
use Rattle.der_core.specs.Values.{HasLength, IsOid, IsOpaque}
use Rattle.der_lists.specs.Ranks.{Ascending}

-- Attribute ::= SEQUENCE { attrType OBJECT IDENTIFIER, attrValues SET OF AttributeValue }, where AttributeValue ::= ANY
-- is a whole element
pub record AttributeValue : Type 0 where
  pub id : List ℕ
  pub values : List (List ℕ)

-- elements one after the other
abbrev pub joined : List (List ℕ) → List ℕ
joined xs = flat_map (λ x. x) xs

abbrev pub attribute_parts : AttributeValue → List ℕ
attribute_parts a = el 0x06 a.id ++ el 0x31 (joined a.values)

abbrev pub attribute_element : AttributeValue → List ℕ
attribute_element a = el 0x30 (attribute_parts a)

-- attributes one after the other
abbrev pub attributes_parts : List AttributeValue → List ℕ
attributes_parts xs = flat_map attribute_element xs

pub record GoodAttribute (a : AttributeValue) : Type 0 where
  pub id : IsOid a.id
  pub values : AllByRecursion IsOpaque a.values
  pub set : HasLength (joined a.values)
  pub size : HasLength (attribute_parts a)

-- DER requires the values of a SET OF to be in ascending order (X.690, 11.6)
pub record GoodSignedAttribute (a : AttributeValue) : Type 0 where
  pub good : GoodAttribute a
  pub ascending : Ascending a.values

-- SignedAttributes ::= SET SIZE (1..MAX) OF Attribute, which MUST be DER encoded
pub record GoodSignedAttributes (xs : List AttributeValue) : Type 0 where
  pub each : AllByRecursion GoodSignedAttribute xs
  pub ascending : Ascending (map attribute_element xs)
  pub some : xs ≢ []
  pub size : HasLength (attributes_parts xs)

-- UnsignedAttributes ::= SET SIZE (1..MAX) OF Attribute, in any order
pub record GoodUnsignedAttributes (xs : List AttributeValue) : Type 0 where
  pub each : AllByRecursion GoodAttribute xs
  pub some : xs ≢ []
  pub size : HasLength (attributes_parts xs)

-- if present, in an element with this identifier
abbrev pub optional_attributes : ℕ → Option (List AttributeValue) → List ℕ
optional_attributes t None = []
optional_attributes t (Some xs) = el t (attributes_parts xs)

-- what is signed: the DER encoding of the signed attributes as a SET OF, and not with the [0] of a SignerInfo (RFC
-- 5652, 5.4)
abbrev pub signed_octets : List AttributeValue → List ℕ
signed_octets xs = el 0x31 (attributes_parts xs)

-- the same without its first octet
abbrev pub tail_of : List AttributeValue → List ℕ
tail_of xs = drop 1 (signed_octets xs)
