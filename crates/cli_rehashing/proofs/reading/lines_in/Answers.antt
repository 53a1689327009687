use Rattle.std.proofs.lemmas.Result.{err_from_is_err_and}
use Rattle.cli_rehashing.proofs.Stated.{names_refused}
use Rattle.cli_rehashing.proofs.reading.lines_in.Goals as goal

pub returns-in_err-test_names-clause-refused : goal.returns-in_err-test_names-clause-refused
returns-in_err-test_names-clause-refused c =
    let p = err_from_is_err_and c.from_residual-in_err-test_names.result
    c.from_residual-in_err-test_names.ensures.1 in
    rw (p.1, p.2)
    (names_refused c.args.alg c.args.text.now _ c.in_ok-sums.ensures.found _ c.in_err-test_names.ensures.refused)
