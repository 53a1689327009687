-- What is found on the way to whether a record is renewed.
use Rattle.std.specs.Prelude.{◌≡◌, ℕ, List, [], ◌∷◌, ◌++◌, Some, Contains}
use Rattle.digests.specs.declared.value.Digest.{Digest}
use Rattle.evidence_types.specs.StampValue.{StampValue}
use Rattle.check_evidence.specs.Places.{first_of}
use Rattle.evidence_making.specs.Done.{IsRehashedFor}

-- of the last chain the first archive time-stamp, the one before the last, and the last
pub record AreLastTwo (chains : List (List StampValue)) (first before last : StampValue) : Type 0 where
  pub front : List (List StampValue)
  pub stamps : List StampValue
  pub are : chains ≡ front ++ (stamps ++ before ∷ last ∷ []) ∷ []
  pub is_first : first_of (stamps ++ before ∷ []) ≡ Some first

-- the last chain has one archive time-stamp
pub record EndsAlone (chains : List (List StampValue)) : Type 0 where
  pub front : List (List StampValue)
  pub stamp : StampValue
  pub are : chains ≡ front ++ (stamp ∷ []) ∷ []

-- the last two of a list
abbrev pub AreTwo : {A : Type 0} → (list : List A) → (before last : A) → Type 0
AreTwo {A} list before last = (front : List A) × (list ≡ front ++ before ∷ last ∷ [])

-- the record is renewed by a hash tree for the data object of a digest, with this leaf
abbrev pub IsForIt : (octets token : List ℕ) → (digest leaf : Digest) → Type 0
IsForIt octets token digest leaf = (m : ℕ) × IsRehashedFor octets token digest leaf m

-- it isn't for that of one of these
abbrev pub IsNotForAll : (octets token : List ℕ) → (digests : List Digest) → Type 0
IsNotForAll octets token digests = (digest : Digest) × Contains digests digest
    × ((leaf : Digest) (m : ℕ) → IsRehashedFor octets token digest leaf m → ⊥)
