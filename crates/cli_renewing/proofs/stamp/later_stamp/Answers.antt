use Rattle.std.proofs.Common.{inr}
use Rattle.std.proofs.lemmas.Result.{err_from_is_err_and}
use Rattle.cli_making.specs.Stamps.{StampsTree}
use Rattle.cli_making.proofs.Stamps.{as_of}
use Rattle.cli_renewing.proofs.stamp.later_stamp.Goals as goal

pub returns-in_err-test_order-clause-refused : goal.returns-in_err-test_order-clause-refused
returns-in_err-test_order-clause-refused c =
    let p = err_from_is_err_and c.from_residual-in_err-test_order.result
    c.from_residual-in_err-test_order.ensures.1 in
    rw (p.1, p.2)
    (inr (
      c.in_ok-stamp.stamp.moment,
      as_of c.in_ok-stamp.stamp c.args.tree.now c.args.token.now c.in_ok-stamp.ensures.has
          (λ tree token. StampsTree tree token c.in_ok-stamp.stamp.moment) c.in_ok-stamp.ensures.stamps.0,
      c.in_err-test_order.ensures.refused,
    ))
