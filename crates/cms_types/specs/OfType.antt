-- The first of some attributes that has a type.
use Rattle.std.specs.Prelude.{◌≡◌, ◌≢◌, ℕ, Bool, List, ◌∷◌, ◌++◌, Option, Ok}
use Rattle.std.specs.List.{AllByRecursion}
use Rattle.der_core.specs.Lists.{is_same, only}
use Rattle.der_core.specs.Reading.{Spot, enter_at}
use Rattle.cms_types.specs.AttributeReading.{values_in, attribute_in}
use Rattle.cms_types.specs.AttributeValue.{AttributeValue}

-- an attribute has this type
abbrev pub has_type : List ℕ → AttributeValue → Bool
has_type id a = is_same a.id id

-- none of these attributes has this type
abbrev pub NoneHas : List ℕ → List AttributeValue → Type 0
NoneHas id xs = AllByRecursion (λ a. a.id ≢ id) xs

-- the first of these attributes that has this type, and those behind it
pub record IsFirstOf (id : List ℕ) (xs : List AttributeValue) (first : AttributeValue)
    (behind : List AttributeValue) : Type 0 where
  pub before : List AttributeValue
  pub parts : xs ≡ before ++ first ∷ behind
  pub others : NoneHas id before
  pub is_type : first.id ≡ id

-- the same, and whether it has exactly one value, and which
abbrev pub HasFirst : List ℕ → List AttributeValue → Option (List ℕ) → List AttributeValue → Type 0
HasFirst id xs value behind = (first : AttributeValue) × IsFirstOf id xs first behind × (value ≡ only first.values)

-- the values of this attribute are here, in their SET
abbrev pub IsAtValues : AttributeValue → Spot → Type 0
IsAtValues a s = (inside : Spot × Spot) × (enter_at 0x31 s ≡ Ok inside) × (values_in inside.0 ≡ Ok a.values)

-- the contents of the first of these attributes are here, and those are the others
abbrev pub EntersFirst : List AttributeValue → Spot → List AttributeValue → Type 0
EntersFirst xs parts others = (a : AttributeValue) × (xs ≡ a ∷ others) × (attribute_in parts ≡ Ok a)
