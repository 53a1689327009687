use Rattle.std.proofs.Common.{refl}
use Rattle.cli_failures.specs.declared.failure.Failure.TheVariants as failure
use Rattle.std.proofs.lemmas.Result.{err_from_is_err_and}
use Rattle.cli_making.proofs.Made.{lacking}
use Rattle.cli_making.proofs.sums.root_in.Goals as goal

pub tree_over-requires : goal.tree_over-requires
tree_over-requires c = (c.args.text.now, c.in_ok-sums.ensures.found)

pub returns-in_err-tree-clause-refused : goal.returns-in_err-tree-clause-refused
returns-in_err-tree-clause-refused c =
    let p = err_from_is_err_and c.from_residual-in_err-tree.result c.from_residual-in_err-tree.ensures.1 in
    rw (p.1, p.2)
    (lacking c.args.alg c.args.text.now c.in_ok-sums.sums c.in_ok-sums.ensures.found failure.Memory refl)

pub returns-clause-found : goal.returns-clause-found
returns-clause-found c = (
  c.in_ok-sums.sums,
  c.in_ok-tree.tree,
  record {
    stated = c.in_ok-sums.ensures.found;
    named = c.in_ok-sums.ensures.named;
    over = c.in_ok-tree.ensures;
    is_root = record { algorithm = c.root.ensures.algorithm; octets = c.root.ensures.octets };
  },
)
