use Rattle.std.proofs.lemmas.Result.{err_from_is_err_and}
use Rattle.cli_renewing.specs.Renewing.{renewal}
use Rattle.cli_renewing.proofs.Puts.{tested_next, untested_next}
use Rattle.cli_renewing.proofs.renew.test_records.Goals as goal

pub returns-in_err-test_record-clause-failed : goal.returns-in_err-test_record-clause-failed
returns-in_err-test_record-clause-failed g c =
    let p = err_from_is_err_and c.from_residual.result c.from_residual.ensures.1 in
    rw (p.1, p.2)
    (untested_next g.K.Keeps.ways (renewal c.args.by.now.tree.now c.args.by.now.token.now c.args.by.now.moment)
    c.args.paths.now c.loop-path.path-index _ c.loop-path-test.true _ c.loop-path.invariant
    c.in_err-test_record.ensures.fails)

pub loop-path-preserved : goal.loop-path-preserved
loop-path-preserved g c =
    tested_next g.K.Keeps.ways (renewal c.args.by.now.tree.now c.args.by.now.token.now c.args.by.now.moment)
    c.args.paths.now c.loop-path.path-index _ c.loop-path-test.true c.loop-path.invariant
    c.in_ok-test_record.ensures.tested
