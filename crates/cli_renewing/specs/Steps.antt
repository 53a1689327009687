-- What is found on the way to records that are renewed.
use Rattle.std.specs.Prelude.{◌≡◌, ⊤, ℕ, List, [], ◌∷◌, Option, Result, Ok, Err, option_map}
use Rattle.digests.specs.declared.algorithm.Alg.{Alg}
use Rattle.digests.specs.Digests.{alg_of}
use Rattle.cli_renewing.specs.declared.footing.Footing.{Footing}
use Rattle.cli_renewing.specs.declared.step.Unrenewed.{Unrenewed}
use Rattle.cli_renewing.specs.declared.step.Unrenewed.TheVariants.{Changed, TooLong, OutOfMemory}
use Rattle.cli_renewing.specs.Footings.{AreBy}

-- an algorithm is that of the first leaf, if there is one
abbrev pub IsOfFirst : List Footing → Alg → Type 0
IsOfFirst [] alg = ⊤
IsOfFirst (f ∷ footings) alg = alg_of f.leaf ≡ alg

-- all leaves are by the algorithm of the first
abbrev pub AreOfFirst : List Footing → Type 0
AreOfFirst [] = ⊤
AreOfFirst (f ∷ footings) = AreBy (alg_of f.leaf) (f ∷ footings)

-- what was made, seen as octets, is what the record becomes; or it would be too long; or the tree isn't over the
-- record; or memory was refused
abbrev pub IsStep : {X : Type 0} → (octets_of_made : X → List ℕ) → (Becomes : Option (List ℕ) → Type 0)
    → (TooLongSo OutsideSo : Type 0) → Result (Option X) Unrenewed → Type 0
IsStep of_made Becomes TooLongSo OutsideSo (Ok made) = Becomes (option_map of_made made)
IsStep of_made Becomes TooLongSo OutsideSo (Err TooLong) = TooLongSo
IsStep of_made Becomes TooLongSo OutsideSo (Err Changed) = OutsideSo
IsStep of_made Becomes TooLongSo OutsideSo (Err OutOfMemory) = ⊤
