-- What holds of the definitions.
use Rattle.std.specs.Prelude.{◌≡◌, ℕ, List, [], ◌∷◌, Contains, Option}
use Rattle.digests.specs.declared.algorithm.Alg.{Alg}
use Rattle.check_evidence.specs.Grounds.{Grounds}
use Rattle.check_evidence.specs.Roots.{IsRoot, IsCovered}
use Rattle.check_evidence.specs.Showing.{Shows}
use Rattle.check_evidence.specs.Refusing.{Refuses}
use Rattle.check_evidence.specs.declared.rules.EvidenceRefused.{EvidenceRefused}

-- lists have at most one root
abbrev pub RootsAreUnique : Type 0
RootsAreUnique = (alg : Alg) (lists : Option (List (List (List ℕ)))) (covered : List (List ℕ)) (a b : List ℕ)
    → IsRoot alg lists covered a → IsRoot alg lists covered b → a ≡ b

-- lists that cover a group cover each member of it, under the same root
abbrev pub GroupsCoverMembers : Type 0
GroupsCoverMembers = (alg : Alg) (lists : Option (List (List (List ℕ)))) (covered : List (List ℕ)) (value : List ℕ)
    → IsCovered lists covered → Contains covered value → IsCovered lists (value ∷ [])

abbrev pub MembersHaveTheRoot : Type 0
MembersHaveTheRoot = (alg : Alg) (lists : Option (List (List (List ℕ)))) (covered : List (List ℕ)) (value root : List ℕ)
    → Contains covered value → IsRoot alg lists covered root → IsRoot alg lists (value ∷ []) root

-- a record shows at most one moment
abbrev pub RecordsShowOneMoment : Type 0
RecordsShowOneMoment = (g : Grounds) (octets : List ℕ) (data_objects : List (List ℕ)) (m n : ℕ)
    → Shows g octets data_objects m → Shows g octets data_objects n → m ≡ n

-- and it never shows one and is refused
abbrev pub RecordsNeverBoth : Type 0
RecordsNeverBoth = (g : Grounds) (octets : List ℕ) (data_objects : List (List ℕ)) (m : ℕ) (r : EvidenceRefused)
    → Shows g octets data_objects m → Refuses g octets data_objects r → ⊥
