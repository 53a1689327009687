-- Hash trees over digests (RFC 4998, 4.2), and the lists that show a leaf.
use Rattle.std.specs.Prelude.{◌≡◌, ⊤, ℕ, ◌+◌, ◌-◌, ◌/◌, ◌%◌, ◌==◌, zero, suc, true, if◌then◌else◌, List, [], ◌∷◌}
use Rattle.std.specs.Prelude.{◌++◌, map, Option, Some, All, Contains}
use Rattle.std.specs.List.{slice_get}
use Rattle.std.specs.Option.{option_to_list}
use Rattle.der_core.specs.Lists.{is_less}
use Rattle.digests.specs.Messages.{digest_of}
use Rattle.digests.specs.declared.algorithm.Alg.{Alg}
use Rattle.check_evidence.specs.Roots.{IsRoot, IsCovered, HasNoOthers}
use Rattle.check_evidence.specs.Standing.{HasLengths}

-- in ascending order, octet by octet, and none twice: each value is before the one that follows it
abbrev pub IsRising : List (List ℕ) → Type 0
IsRising [] = ⊤
IsRising (v ∷ []) = ⊤
IsRising (v ∷ w ∷ values) = (is_less v w ≡ true) × IsRising (w ∷ values)

-- the leaves of a tree over these values: the different ones, in ascending order
pub record AreLeavesOf (values leaves : List (List ℕ)) : Type 0 where
  pub all : All (Contains leaves) values
  pub only : All (Contains values) leaves
  pub rising : IsRising leaves

-- the node of two values: the hash value of their octets in ascending order, one after the other (4.2, step 4)
abbrev pub node_of : Alg → List ℕ → List ℕ → List ℕ
node_of alg v w = digest_of alg (if is_less w v then w ++ v else v ++ w)

-- the level above these nodes: the node of each two that are neighbours; an odd one at the end stands alone, as its own
-- node (4.2, step 4)
abbrev pub level_above : Alg → List (List ℕ) → List (List ℕ)
level_above alg [] = []
level_above alg (v ∷ []) = v ∷ []
level_above alg (v ∷ w ∷ values) = node_of alg v w ∷ level_above alg values

-- the level that is so many above the leaves
abbrev pub level_at : Alg → (height : ℕ) → (leaves : List (List ℕ)) → List (List ℕ)
level_at alg zero leaves = leaves
level_at alg (suc height) leaves = level_at alg height (level_above alg leaves)

-- the root of these leaves: the node that is the only one on a level
pub record IsTreeRoot (alg : Alg) (leaves : List (List ℕ)) (root : List ℕ) : Type 0 where
  pub height : ℕ
  pub only : level_at alg height leaves ≡ root ∷ []

-- a hash tree
pub record HashTree : Type 0 where
  pub algorithm : Alg
  pub leaves : List (List ℕ)
  pub root : List ℕ

-- it is the tree over these values by this algorithm
pub record IsTreeOf (alg : Alg) (values : List (List ℕ)) (tree : HashTree) : Type 0 where
  pub algorithm : tree.algorithm ≡ alg
  pub leaves : AreLeavesOf values tree.leaves
  pub root : IsTreeRoot alg tree.leaves tree.root

-- ---- the lists of a leaf (a reducedHashtree, 4.2)

-- the place of the neighbour with which a node makes a pair on its level, where there is one
abbrev pub beside : ℕ → ℕ
beside place = if place % 2 == 0 then place + 1 else place - 1

-- the neighbours on the way up, over so many levels, from the node at this place of a level: the one with which it
-- makes a pair, where there is one, and then those of the node of both, which has half the place on the level above. An
-- odd one at the end has no neighbour, and is its own node there. Nodes on the way are computed, and stand in no list.
abbrev pub way_up : Alg → (height place : ℕ) → (level : List (List ℕ)) → List (List ℕ)
way_up alg zero place level = []
way_up alg (suc height) place level =
    option_to_list (slice_get level (beside place)) ++ way_up alg height (place / 2) (level_above alg level)

-- these are the leaf alone, and then its neighbours on the way up to the root
pub record IsWayFrom (tree : HashTree) (leaf : List ℕ) (values : List (List ℕ)) : Type 0 where
  pub root : IsTreeRoot tree.algorithm tree.leaves tree.root
  pub place : ℕ
  pub at_place : slice_get tree.leaves place ≡ Some leaf
  pub are : values ≡ leaf ∷ way_up tree.algorithm root.height place tree.leaves

-- lists of one value each
abbrev pub each_alone : List (List ℕ) → Option (List (List (List ℕ)))
each_alone values = Some (map (λ v. v ∷ []) values)

-- Lists of these values, each alone, show that a leaf is of the tree: their root is that of the tree, they cover the
-- leaf and nothing else, and each value is as long as a digest.
pub record AreListsOf (tree : HashTree) (leaf : List ℕ) (values : List (List ℕ)) : Type 0 where
  pub root : IsRoot tree.algorithm (each_alone values) (leaf ∷ []) tree.root
  pub covered : IsCovered (each_alone values) (leaf ∷ [])
  pub no_others : HasNoOthers (each_alone values) (leaf ∷ [])
  pub lengths : HasLengths (each_alone values) tree.algorithm
