use Rattle.std.proofs.Common.{arith}
use Rattle.std.proofs.lemmas.Result.{err_from_is_err_and}
use Rattle.cli_making.proofs.Made.{misnamed, not_stated}
use Rattle.cli_making.proofs.Stated.{few_sums}
use Rattle.cli_making.proofs.sums.sums_in.Goals as goal

pub test_names-requires : goal.test_names-requires
test_names-requires c =
    let few = few_sums c.args.alg c.args.text.now c.in_ok-sums.sums c.in_ok-sums.ensures.found in omega (arith, few)

pub returns-in_err-sums-clause-refused : goal.returns-in_err-sums-clause-refused
returns-in_err-sums-clause-refused c =
    let p = err_from_is_err_and c.from_residual.result c.from_residual.ensures.1 in
    rw (p.1, p.2) (not_stated c.args.alg c.args.text.now _ c.in_err-sums.ensures.refused)

pub returns-in_err-test_names-clause-refused : goal.returns-in_err-test_names-clause-refused
returns-in_err-test_names-clause-refused c =
    let p = err_from_is_err_and c.from_residual-in_err-test_names.result
    c.from_residual-in_err-test_names.ensures.1 in
    rw (p.1, p.2)
    (misnamed c.args.alg c.args.text.now c.in_ok-sums.sums c.in_ok-sums.ensures.found _
    c.in_err-test_names.ensures.refused)
