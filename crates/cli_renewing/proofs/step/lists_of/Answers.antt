use Rattle.cli_renewing.proofs.Trees.{leads_up, no_leaf}
use Rattle.cli_renewing.proofs.step.lists_of.Goals as goal

pub returns-then-lt-clause-up : goal.returns-then-lt-clause-up
returns-then-lt-clause-up c = leads_up _ _ c.lists_of.result c.lists_of.ensures.some c.lists_of.ensures.way
    c.lists_of.ensures.lists

pub returns-then-lt-clause-none : goal.returns-then-lt-clause-none
returns-then-lt-clause-none c =
    no_leaf c.args.by.now.tree.now c.args.footing.now.leaf c.args.by.now.moment c.args.footing.now.after
    c.lists_of.result c.lists_of.ensures.some
