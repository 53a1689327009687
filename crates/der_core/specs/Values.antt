-- What the types of the profile have in common: their parts as values, and how a part is encoded.
use Rattle.std.specs.Prelude.{◌≡◌, ℕ, ◌<◌, ◌^◌, true, List, [], ◌∷◌, ◌++◌, length, Option, Some, None, IfSome}
use Rattle.der_core.specs.Element.{el, IsElement}
use Rattle.der_core.specs.Contents.{is_integer, is_oid}
use Rattle.der_core.specs.declared.flag.Flag.{Flag}
use Rattle.der_core.specs.declared.flag.Flag.TheVariants.{Absent, False, True}

-- if present, an element with this identifier and these contents
abbrev pub optional : ℕ → Option (List ℕ) → List ℕ
optional t None = []
optional t (Some b) = el t b

-- if present, a whole element
abbrev pub optional_whole : Option (List ℕ) → List ℕ
optional_whole None = []
optional_whole (Some x) = x

-- a BOOLEAN with the default FALSE: absent, the default spelled out, or the other value
abbrev pub flag : Flag → List ℕ
flag Absent = []
flag False = el 0x01 (0x00 ∷ [])
flag True = el 0x01 (0xff ∷ [])

-- contents that an element can have: four length octets can state how many octets they are
abbrev pub HasLength : List ℕ → Type 0
HasLength b = length b < 2 ^ 32

-- any element, whole
abbrev pub IsOpaque : List ℕ → Type 0
IsOpaque x = (t : ℕ) × (b : List ℕ) × IsElement t b × (x ≡ el t b)

abbrev pub IsOid : List ℕ → Type 0
IsOid b = (is_oid b ≡ true) × HasLength b

abbrev pub IsInteger : List ℕ → Type 0
IsInteger b = (is_integer b ≡ true) × HasLength b

-- AlgorithmIdentifier ::= SEQUENCE { algorithm OBJECT IDENTIFIER, parameters ANY DEFINED BY algorithm OPTIONAL }
-- (RFC 5280, 4.1.1.2): the parameters are a whole element
pub record AlgorithmValue : Type 0 where
  pub oid : List ℕ
  pub parameters : Option (List ℕ)

abbrev pub algorithm_parts : AlgorithmValue → List ℕ
algorithm_parts a = el 0x06 a.oid ++ optional_whole a.parameters

abbrev pub algorithm_element : AlgorithmValue → List ℕ
algorithm_element a = el 0x30 (algorithm_parts a)

pub record GoodAlgorithm (a : AlgorithmValue) : Type 0 where
  pub oid : IsOid a.oid
  pub parameters : IfSome a.parameters IsOpaque
  pub size : HasLength (algorithm_parts a)
