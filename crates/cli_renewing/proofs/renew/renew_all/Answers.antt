use Rattle.std.proofs.Common.{Some}
use Rattle.std.proofs.lemmas.Result.{err_from_is_err_and}
use Rattle.cli_renewing.specs.Renewing.{renewal}
use Rattle.cli_renewing.specs.Unrenewed.{HaveNoTree}
use Rattle.cli_renewing.proofs.Runs.{ended, no_footings, no_tree, treeless, unstamped, untested}
use Rattle.cli_renewing.proofs.Standings.{StandBy, footings_as}
use Rattle.cli_renewing.proofs.renew.renew_all.Goals as goal

pub returns-in_err-found-clause-failed : goal.returns-in_err-found-clause-failed
returns-in_err-found-clause-failed g c =
    let p = err_from_is_err_and c.from_residual.result c.from_residual.ensures.1 in
    rw (p.1, p.2)
    (treeless g.K.Keeps.ways (HaveNoTree g.K.Keeps.ways (Some c.args.token.now) c.args.paths.now)
    (StandBy g.K.Keeps.ways c.args.token.now c.args.paths.now) renewal c.args.paths.now c.args.token.now _ _
    (no_footings g.K.Keeps.ways (Some c.args.token.now) c.args.paths.now _ c.in_err-found.ensures.refused))

pub returns-in_err-tree-clause-failed : goal.returns-in_err-tree-clause-failed
returns-in_err-tree-clause-failed g c =
    let p = err_from_is_err_and c.from_residual-in_err-tree.result c.from_residual-in_err-tree.ensures.1 in
    rw (p.1, p.2)
    (treeless g.K.Keeps.ways (HaveNoTree g.K.Keeps.ways (Some c.args.token.now) c.args.paths.now)
    (StandBy g.K.Keeps.ways c.args.token.now c.args.paths.now) renewal c.args.paths.now c.args.token.now _ _
    (no_tree g.K.Keeps.ways (Some c.args.token.now) c.args.paths.now c.as_slice-footings.result.now
    (footings_as _ _ _ _ _ c.as_slice-footings.ensures.value c.in_ok-found.ensures.found) _
    c.in_err-tree.ensures.refused))

pub returns-in_err-by-clause-failed : goal.returns-in_err-by-clause-failed
returns-in_err-by-clause-failed g c =
    let p = err_from_is_err_and c.from_residual-in_err-by.result c.from_residual-in_err-by.ensures.1 in
    rw (p.1, p.2)
    (unstamped g.K.Keeps.ways (HaveNoTree g.K.Keeps.ways (Some c.args.token.now) c.args.paths.now)
    (StandBy g.K.Keeps.ways c.args.token.now c.args.paths.now) renewal c.args.paths.now c.args.token.now
    c.as_slice-footings.result.now
    (footings_as _ _ _ _ _ c.as_slice-footings.ensures.value c.in_ok-found.ensures.found)
    c.in_ok-tree.tree c.in_ok-tree.ensures.found _ _ c.in_err-by.ensures.refused)

pub returns-in_err-test_records-clause-failed : goal.returns-in_err-test_records-clause-failed
returns-in_err-test_records-clause-failed g c =
    let p = err_from_is_err_and c.from_residual-in_err-test_records.result
    c.from_residual-in_err-test_records.ensures.1 in
    rw (p.1, p.2)
    (untested g.K.Keeps.ways (HaveNoTree g.K.Keeps.ways (Some c.args.token.now) c.args.paths.now)
    (StandBy g.K.Keeps.ways c.args.token.now c.args.paths.now) renewal c.args.paths.now c.args.token.now
    c.as_slice-footings.result.now
    (footings_as _ _ _ _ _ c.as_slice-footings.ensures.value c.in_ok-found.ensures.found)
    c.in_ok-tree.tree c.in_ok-tree.ensures.found c.in_ok-by.by c.in_ok-by.ensures.has c.in_ok-by.ensures.stamps
    c.in_ok-by.ensures.later _ _ c.in_err-test_records.ensures.failed)

pub returns : goal.returns
returns g c =
    let how = ended g.K.Keeps.ways (HaveNoTree g.K.Keeps.ways (Some c.args.token.now) c.args.paths.now)
    (StandBy g.K.Keeps.ways c.args.token.now c.args.paths.now) renewal c.args.paths.now c.args.token.now
    c.as_slice-footings.result.now
    (footings_as _ _ _ _ _ c.as_slice-footings.ensures.value c.in_ok-found.ensures.found)
    c.in_ok-tree.tree c.in_ok-tree.ensures.found c.in_ok-by.by c.in_ok-by.ensures.has c.in_ok-by.ensures.stamps
    c.in_ok-by.ensures.later c.in_ok-test_records.ensures.tested _ _ c.put_records.result c.put_records.ensures.put
    c.put_records.ensures.failed in
    record { renewed = how.0; failed = how.1 }
