use Rattle.std.proofs.Common.{ℕ, List, sym, ◌∙◌, subst}
use Rattle.digests.specs.Digests.{octets_of}
use Rattle.evidence_trees.specs.HashTrees.{HashTree, IsWayFrom, AreListsOf}
use Rattle.evidence_trees.proofs.Trees.{levels_of_leaf, is_way, are_lists, tree_of}
use Rattle.evidence_trees.proofs.tree.Tree.lists_of.Goals as goal

pub of-requires-clause-levels : goal.of-requires-clause-levels
of-requires-clause-levels c =
    let i = c.self.inside in
    levels_of_leaf i.alg i.nodes i.leaves i.height c.in_ok-place.place c.self.invariant c.in_ok-place.ensures.within

pub returns-clause-way : goal.returns-clause-way
returns-clause-way c =
    let i = c.self.inside in
    let found = c.in_ok-place.ensures.found ∙ c.bytes.ensures.octets in
    subst (λ (t : HashTree). IsWayFrom t (octets_of c.args.leaf.now) c.of.result) c.self.view_is
    (subst (λ (vs : List (List ℕ)). IsWayFrom (tree_of i.alg i.nodes i.leaves) (octets_of c.args.leaf.now) vs)
    (sym c.of.ensures)
    (is_way i.alg i.nodes i.leaves i.height c.in_ok-place.place (octets_of c.args.leaf.now) c.self.invariant
    c.in_ok-place.ensures.within found))

pub returns-clause-lists : goal.returns-clause-lists
returns-clause-lists c =
    let i = c.self.inside in
    let found = c.in_ok-place.ensures.found ∙ c.bytes.ensures.octets in
    subst (λ (t : HashTree). AreListsOf t (octets_of c.args.leaf.now) c.of.result) c.self.view_is
    (subst (λ (vs : List (List ℕ)). AreListsOf (tree_of i.alg i.nodes i.leaves) (octets_of c.args.leaf.now) vs)
    (sym c.of.ensures)
    (are_lists i.alg i.nodes i.leaves i.height c.in_ok-place.place (octets_of c.args.leaf.now) c.self.invariant
    c.in_ok-place.ensures.within found))
