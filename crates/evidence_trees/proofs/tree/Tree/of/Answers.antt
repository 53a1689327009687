use Rattle.std.proofs.Common.{◌≡◌, ℕ, List, length, take, map, sym, ap, ◌∙◌, subst}
use Rattle.digests.specs.Digests.{octets_of}
use Rattle.evidence_trees.specs.HashTrees.{AreLeavesOf}
use Rattle.evidence_trees.specs.Climbing.{AreLevels}
use Rattle.evidence_trees.proofs.Trees.{are_levels, is_tree}
use Rattle.evidence_trees.proofs.Levels.{levels_front}
use Rattle.evidence_trees.proofs.tree.Tree.of.Goals as goal

pub invariant_of-result : goal.invariant_of-result
invariant_of-result c = are_levels c.args.alg c.in_ok-nodes.nodes.values c.raise.new.nodes c.len-leaves.result
    c.in_ok-height.height c.in_ok-height.ensures.levels c.len-leaves.ensures c.in_ok-nodes.ensures.leaves.rising
    c.in_ok-nodes.ensures.lengths c.in_ok-height.ensures.one
    (c.in_ok-height.ensures.size ∙ c.in_ok-nodes.ensures.size)

pub returns : goal.returns
returns c =
    let leaves = c.in_ok-nodes.nodes.values in
    let nodes = c.raise.new.nodes in
    let count = c.len-leaves.result in
    let height = c.in_ok-height.height in
    let values = map octets_of c.args.leaves.now in
    let made : AreLevels c.args.alg nodes count height = are_levels c.args.alg leaves nodes count height
    c.in_ok-height.ensures.levels c.len-leaves.ensures c.in_ok-nodes.ensures.leaves.rising c.in_ok-nodes.ensures.lengths
    c.in_ok-height.ensures.one (c.in_ok-height.ensures.size ∙ c.in_ok-nodes.ensures.size) in
    let front : leaves ≡ take count nodes.values = sym (ap (λ (n : ℕ). take n nodes.values) c.len-leaves.ensures
    ∙ (ap (λ (vs : List (List ℕ)). take (length leaves) vs) c.in_ok-height.ensures.levels
    ∙ levels_front c.args.alg height leaves)) in
    is_tree c.args.alg values nodes count height made
    (subst (λ (vs : List (List ℕ)). AreLeavesOf values vs) front c.in_ok-nodes.ensures.leaves)
