-- Archive time-stamps and their encoding (RFC 4998, 4.1).
use Rattle.std.specs.Prelude.{◌≢◌, ◌≡◌, ℕ, List, [], ◌++◌, Option, Some, None, IfSome}
use Rattle.std.specs.List.{flat_map, AllByRecursion}
use Rattle.der_core.specs.Element.{el, IsElement}
use Rattle.der_core.specs.Values.{HasLength, AlgorithmValue, algorithm_parts, GoodAlgorithm}
use Rattle.cms_types.specs.AttributeValue.{AttributeValue, GoodSignedAttributes, optional_attributes}

-- PartialHashtree ::= SEQUENCE OF OCTET STRING: hash values, in the order in which they occur
abbrev pub hash_list_parts : List (List ℕ) → List ℕ
hash_list_parts values = flat_map (λ v. el 0x04 v) values

abbrev pub hash_list_element : List (List ℕ) → List ℕ
hash_list_element values = el 0x30 (hash_list_parts values)

-- hash values of any octets; at least one, since a list of none shows nothing
pub record GoodHashList (values : List (List ℕ)) : Type 0 where
  pub each : AllByRecursion HasLength values
  pub some : values ≢ []
  pub size : HasLength (hash_list_parts values)

-- SEQUENCE OF PartialHashtree
abbrev pub hash_lists_parts : List (List (List ℕ)) → List ℕ
hash_lists_parts lists = flat_map hash_list_element lists

-- at least one list
pub record GoodHashLists (lists : List (List (List ℕ))) : Type 0 where
  pub each : AllByRecursion GoodHashList lists
  pub some : lists ≢ []
  pub size : HasLength (hash_lists_parts lists)

-- if present, in an element with this identifier
abbrev pub optional_algorithm : ℕ → Option AlgorithmValue → List ℕ
optional_algorithm t None = []
optional_algorithm t (Some a) = el t (algorithm_parts a)

abbrev pub optional_hash_lists : ℕ → Option (List (List (List ℕ))) → List ℕ
optional_hash_lists t None = []
optional_hash_lists t (Some lists) = el t (hash_lists_parts lists)

-- ArchiveTimeStamp ::= SEQUENCE { digestAlgorithm [0] AlgorithmIdentifier OPTIONAL, attributes [1] Attributes OPTIONAL,
--   reducedHashtree [2] SEQUENCE OF PartialHashtree OPTIONAL, timeStamp ContentInfo }
-- Attributes ::= SET SIZE (1..MAX) OF Attribute
-- The time-stamp is a SEQUENCE, kept as one whole element.
pub record StampValue : Type 0 where
  pub algorithm : Option AlgorithmValue
  pub attributes : Option (List AttributeValue)
  pub lists : Option (List (List (List ℕ)))
  pub stamp : List ℕ

-- a whole SEQUENCE
abbrev pub IsSequence : List ℕ → Type 0
IsSequence x = (b : List ℕ) × IsElement 0x30 b × (x ≡ el 0x30 b)

abbrev pub stamp_parts : StampValue → List ℕ
stamp_parts s = optional_algorithm 0xa0 s.algorithm
    ++ (optional_attributes 0xa1 s.attributes
    ++ (optional_hash_lists 0xa2 s.lists
    ++ s.stamp))

abbrev pub stamp_element : StampValue → List ℕ
stamp_element s = el 0x30 (stamp_parts s)

-- DER requires the attributes, a SET OF, to be in ascending order (X.690, 11.6), and so the values of each
pub record GoodStamp (s : StampValue) : Type 0 where
  pub algorithm : IfSome s.algorithm GoodAlgorithm
  pub attributes : IfSome s.attributes GoodSignedAttributes
  pub lists : IfSome s.lists GoodHashLists
  pub stamp : IsSequence s.stamp
  pub size : HasLength (stamp_parts s)
