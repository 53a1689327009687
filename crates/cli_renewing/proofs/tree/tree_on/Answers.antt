use Rattle.std.proofs.Common.{◌∙◌}
use Rattle.cli_renewing.proofs.Trees.{by_first, leaves_by, tree_is_on}
use Rattle.cli_renewing.proofs.tree.tree_on.Goals as goal

pub of-requires-clause-algorithm : goal.of-requires-clause-algorithm
of-requires-clause-algorithm c =
    leaves_by c.alg.result c.args.footings.now c.as_slice.result.now
    (by_first c.args.footings.now c.in-Some.first.now c.alg.result c.in-Some.ensures.value c.alg.ensures c.requires)
    (c.as_slice.ensures.value ∙ c.in_ok-leaves.ensures)

pub returns-clause-found : goal.returns-clause-found
returns-clause-found c root is_root =
    tree_is_on c.alg.result c.args.footings.now c.as_slice.result.now c.in_ok-tree.tree
    (by_first c.args.footings.now c.in-Some.first.now c.alg.result c.in-Some.ensures.value c.alg.ensures c.requires)
    (c.as_slice.ensures.value ∙ c.in_ok-leaves.ensures) c.in_ok-tree.ensures root is_root
