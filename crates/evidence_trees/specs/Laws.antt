-- What holds of the definitions.
use Rattle.std.specs.Prelude.{◌≡◌, ℕ, List, [], ◌∷◌, length, All, Contains}
use Rattle.digests.specs.Algorithms.{length_of}
use Rattle.digests.specs.declared.algorithm.Alg.{Alg}
use Rattle.check_evidence.specs.Roots.{IsNode}
use Rattle.evidence_trees.specs.HashTrees.{HashTree, IsTreeOf, IsTreeRoot, node_of, IsWayFrom}
use Rattle.evidence_trees.specs.HashTrees.{AreListsOf}

-- the tree depends on which values there are alone: not on their order, nor on how often one stands there
abbrev pub TreesAreOfTheirValues : Type 0
TreesAreOfTheirValues = (alg : Alg) (values others : List (List ℕ)) (a b : HashTree) → All (Contains others) values
    → All (Contains values) others → IsTreeOf alg values a → IsTreeOf alg others b → a ≡ b

-- leaves have at most one root
abbrev pub TreesHaveOneRoot : Type 0
TreesHaveOneRoot = (alg : Alg) (leaves : List (List ℕ)) (a b : List ℕ) → IsTreeRoot alg leaves a
    → IsTreeRoot alg leaves b → a ≡ b

-- a node of a tree is the node of a list with both values, in any order
abbrev pub NodesAreThoseOfLists : Type 0
NodesAreThoseOfLists = (alg : Alg) (v w : List ℕ)
    → IsNode alg (v ∷ w ∷ []) (node_of alg v w) × IsNode alg (w ∷ v ∷ []) (node_of alg v w)

-- each leaf of a tree has one way up, and no other
abbrev pub LeavesHaveOneWay : Type 0
LeavesHaveOneWay = (alg : Alg) (values : List (List ℕ)) (tree : HashTree) (leaf : List ℕ) → IsTreeOf alg values tree
    → Contains tree.leaves leaf
    → (way : List (List ℕ)) × IsWayFrom tree leaf way × ((other : List (List ℕ)) → IsWayFrom tree leaf other
    → other ≡ way)

-- lists of the values on the way up from a leaf, each alone, show the leaf, where leaves are as long as digests
abbrev pub WaysShowLeaves : Type 0
WaysShowLeaves = (tree : HashTree) (leaf : List ℕ) (way : List (List ℕ))
    → All (λ v. length v ≡ length_of tree.algorithm) tree.leaves → IsWayFrom tree leaf way → AreListsOf tree leaf way
