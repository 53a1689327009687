-- The levels of a tree, one after another, and the way from a leaf to the root.
use Rattle.std.specs.Prelude.{◌≡◌, ⊤, ℕ, ◌<◌, ◌≤◌, ◌-◌, ◌/◌, zero, suc, List, []}
use Rattle.std.specs.Prelude.{◌++◌, length, take, drop, All}
use Rattle.std.specs.List.{slice_get}
use Rattle.std.specs.Option.{option_to_list}
use Rattle.digests.specs.Algorithms.{length_of}
use Rattle.digests.specs.declared.algorithm.Alg.{Alg}
use Rattle.evidence_trees.specs.Pieces.{Sized}
use Rattle.evidence_trees.specs.HashTrees.{IsRising, level_above, level_at, beside}

-- the leaves, and then so many levels above them
abbrev pub levels : Alg → (height : ℕ) → (leaves : List (List ℕ)) → List (List ℕ)
levels alg zero leaves = leaves
levels alg (suc height) leaves = leaves ++ levels alg height (level_above alg leaves)

-- the nodes are the levels of a tree up to its root, over the first of them
pub record AreLevels (alg : Alg) (nodes : Sized) (leaves height : ℕ) : Type 0 where
  pub size : nodes.size ≡ length_of alg
  pub lengths : All (λ v. length v ≡ length_of alg) nodes.values
  pub rising : IsRising (take leaves nodes.values)
  pub fits : leaves ≤ length nodes.values
  pub levels : nodes.values ≡ levels alg height (take leaves nodes.values)
  pub one : length (level_at alg height (take leaves nodes.values)) ≡ 1

-- the neighbours on the way up: of the node at this place on a level with so many nodes, at which these begin, and then
-- of the node above it
abbrev pub neighbours : (above place count : ℕ) → (nodes : List (List ℕ)) → List (List ℕ)
neighbours zero place count nodes = []
neighbours (suc above) place count nodes = option_to_list (slice_get (take count nodes) (beside place))
    ++ neighbours above (place / 2) (count - count / 2) (drop count nodes)

-- the same where so many nodes are left, from the first of the level on
abbrev pub neighbours_from : (above place count left : ℕ) → (nodes : List (List ℕ)) → List (List ℕ)
neighbours_from above place count left nodes = neighbours above place count (drop (length nodes - left) nodes)

-- so many nodes that are left have these levels
abbrev pub HasLevels : (above place count left : ℕ) → Type 0
HasLevels zero place count left = ⊤
HasLevels (suc above) place count left = (place < count) × (count ≤ left)
    × HasLevels above (place / 2) (count - count / 2) (left - count)
