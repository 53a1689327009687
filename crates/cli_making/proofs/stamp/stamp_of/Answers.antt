use Rattle.std.proofs.Common.{◌≡◌, Err, rules}
use Rattle.std.proofs.lemmas.Result.{err_from_is_err_and}
use Rattle.cli_making.specs.Sums.{IsRootOf}
use Rattle.cli_making.proofs.Stamps.{stamps_not}
use Rattle.cli_making.proofs.stamp.stamp_of.Goals as goal

pub returns-clause-stamps : goal.returns-clause-stamps
returns-clause-stamps c =
    let is_root : IsRootOf c.args.tree.now c.root.result =
    record { algorithm = c.root.ensures.algorithm; octets = c.root.ensures.octets } in
    ((c.root.result, is_root, c.in_ok-moment.ensures.found), c.in_ok-moment.ensures.sequence)

pub returns-in_err-moment-clause-refused : goal.returns-in_err-moment-clause-refused
returns-in_err-moment-clause-refused c =
    let p = err_from_is_err_and c.from_residual.result c.from_residual.ensures.1 in
    let is_root : IsRootOf c.args.tree.now c.root.result =
    record { algorithm = c.root.ensures.algorithm; octets = c.root.ensures.octets } in
    let failed : c.stamp_of_root.result ≡ Err c.in_err-moment.field-0.0 = search rules in
    rw (p.1, p.2) (
      c.root.result,
      is_root,
      stamps_not c.args.token.now c.root.result c.stamp_of_root.result
          c.in_err-moment.field-0.0 failed c.stamp_of_root.ensures.malformed c.stamp_of_root.ensures.differs
          c.stamp_of_root.ensures.no_order,
    )
