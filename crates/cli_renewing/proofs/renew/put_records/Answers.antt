use Rattle.std.proofs.Common.{◌++◌, ◌∷◌, []}
use Rattle.std.proofs.lemmas.Result.{err_from_is_err_and}
use Rattle.cli_renewing.specs.Renewing.{renewal}
use Rattle.cli_renewing.proofs.Puts.{put_next, stops_next}
use Rattle.cli_renewing.proofs.renew.put_records.Goals as goal

pub returns-in_err-put_record-clause-failed : goal.returns-in_err-put_record-clause-failed
returns-in_err-put_record-clause-failed g c =
    let p = err_from_is_err_and c.from_residual.result c.from_residual.ensures.1 in
    rw (p.1, p.2)
    (stops_next g.K.Keeps.ways (renewal c.args.by.now.tree.now c.args.by.now.token.now c.args.by.now.moment)
    c.args.paths.now c.loop-path.path-index _ c.loop-path-test.true _ (g.K.Keeps.put c.args.keeps.now)
    (g.K.Keeps.put c.loop-path.keeps) (g.K.Keeps.put c.put_record.new.keeps) c.loop-path.invariant.0
    c.loop-path.invariant.1 c.in_err-put_record.ensures.none c.in_err-put_record.ensures.fails)

pub loop-path-preserved : goal.loop-path-preserved
loop-path-preserved g c = (
  c.loop-path.invariant.0 ++ c.in_ok-put_record.ensures.put.new ∷ [],
  put_next g.K.Keeps.ways (renewal c.args.by.now.tree.now c.args.by.now.token.now c.args.by.now.moment)
      c.args.paths.now c.loop-path.path-index _ c.loop-path-test.true (g.K.Keeps.put c.args.keeps.now)
      (g.K.Keeps.put c.loop-path.keeps) (g.K.Keeps.put c.put_record.new.keeps) c.loop-path.invariant.0
      c.loop-path.invariant.1 c.in_ok-put_record.ensures.put,
)
