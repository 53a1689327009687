-- Values have one tree.
use Rattle.std.proofs.Common.{◌≡◌, ℕ, List, sym, ◌∙◌, subst, All, Contains}
use Rattle.std.proofs.lemmas.List.Elements.{All-contains}
use Rattle.evidence_trees.specs.HashTrees.{IsTreeRoot, AreLeavesOf}
use Rattle.evidence_trees.specs.Laws.{TreesAreOfTheirValues, TreesHaveOneRoot, NodesAreThoseOfLists}
use Rattle.evidence_trees.proofs.Levels.{one_top, node_is_group, node_is_group_turned}
use Rattle.evidence_trees.proofs.Rising.{one_rising}

abbrev Values : Type 0
Values = List (List ℕ)

pub one_root : TreesHaveOneRoot
one_root alg leaves a b h k = one_top alg h.height k.height leaves a b h.only k.only

pub nodes_are : NodesAreThoseOfLists
nodes_are alg v w = (node_is_group alg v w, node_is_group_turned alg v w)

-- a member of the leaves over some values is among those over others
moved : (values others leaves leaves' : Values) → All (Contains others) values → AreLeavesOf values leaves
    → AreLeavesOf others leaves' → (v : List ℕ) → Contains leaves v → Contains leaves' v
moved values others leaves leaves' all h k v c = All-contains (Contains leaves') others v k.all
    (All-contains (Contains others) values v all (All-contains (Contains values) leaves v h.only c))

pub one_tree : TreesAreOfTheirValues
one_tree alg values others a b all all' h k =
    let leaves : a.leaves ≡ b.leaves = one_rising a.leaves b.leaves h.leaves.rising k.leaves.rising
    (moved values others a.leaves b.leaves all h.leaves k.leaves)
    (moved others values b.leaves a.leaves all' k.leaves h.leaves) in
    let root : a.root ≡ b.root = one_root alg b.leaves a.root b.root
    (subst (λ (vs : Values). IsTreeRoot alg vs a.root) leaves h.root) k.root in
    let algorithm : a.algorithm ≡ b.algorithm = h.algorithm ∙ sym k.algorithm in
    λ i. record { algorithm = algorithm i; leaves = leaves i; root = root i }
