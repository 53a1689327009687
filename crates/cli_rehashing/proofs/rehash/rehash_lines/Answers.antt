use Rattle.std.proofs.Common.{Some}
use Rattle.std.proofs.lemmas.Result.{err_from_is_err_and}
use Rattle.cli_renewing.proofs.Runs.{ended, treeless, unstamped, untested}
use Rattle.cli_rehashing.specs.Rehashing.{rehashing}
use Rattle.cli_rehashing.proofs.Lines.{StandBy, Stops, stand_as}
use Rattle.cli_rehashing.proofs.rehash.rehash_lines.Goals as goal

pub returns-in_err-found-clause-failed : goal.returns-in_err-found-clause-failed
returns-in_err-found-clause-failed g c =
    let p = err_from_is_err_and c.from_residual.result c.from_residual.ensures.1 in
    rw (p.1, p.2)
    (treeless g.K.KeepsBelow.ways
    (Stops g.K.KeepsBelow.ways (Some c.args.token.now) c.args.folder.now c.args.sums.now)
    (StandBy g.K.KeepsBelow.ways c.args.token.now c.args.folder.now c.args.sums.now) (rehashing c.args.folder.now)
    c.args.sums.now c.args.token.now _ _
    c.in_err-found.ensures.refused)

pub returns-in_err-by-clause-failed : goal.returns-in_err-by-clause-failed
returns-in_err-by-clause-failed g c =
    let p = err_from_is_err_and c.from_residual-in_err-by.result c.from_residual-in_err-by.ensures.1 in
    rw (p.1, p.2)
    (unstamped g.K.KeepsBelow.ways
    (Stops g.K.KeepsBelow.ways (Some c.args.token.now) c.args.folder.now c.args.sums.now)
    (StandBy g.K.KeepsBelow.ways c.args.token.now c.args.folder.now c.args.sums.now) (rehashing c.args.folder.now)
    c.args.sums.now c.args.token.now
    c.as_slice-footings.result.now
    (stand_as _ _ _ _ _ _ c.as_slice-footings.ensures.value c.in_ok-found.ensures.found)
    c.in_ok-tree.tree c.in_ok-tree.ensures.found _ _ c.in_err-by.ensures.refused)

pub returns-in_err-test_lines-clause-failed : goal.returns-in_err-test_lines-clause-failed
returns-in_err-test_lines-clause-failed g c =
    let p = err_from_is_err_and c.from_residual-in_err-test_lines.result
    c.from_residual-in_err-test_lines.ensures.1 in
    rw (p.1, p.2)
    (untested g.K.KeepsBelow.ways
    (Stops g.K.KeepsBelow.ways (Some c.args.token.now) c.args.folder.now c.args.sums.now)
    (StandBy g.K.KeepsBelow.ways c.args.token.now c.args.folder.now c.args.sums.now) (rehashing c.args.folder.now)
    c.args.sums.now c.args.token.now
    c.as_slice-footings.result.now
    (stand_as _ _ _ _ _ _ c.as_slice-footings.ensures.value c.in_ok-found.ensures.found)
    c.in_ok-tree.tree c.in_ok-tree.ensures.found c.in_ok-by.by c.in_ok-by.ensures.has c.in_ok-by.ensures.stamps
    c.in_ok-by.ensures.later _ _ c.in_err-test_lines.ensures.failed)

pub returns : goal.returns
returns g c =
    let how = ended g.K.KeepsBelow.ways
    (Stops g.K.KeepsBelow.ways (Some c.args.token.now) c.args.folder.now c.args.sums.now)
    (StandBy g.K.KeepsBelow.ways c.args.token.now c.args.folder.now c.args.sums.now) (rehashing c.args.folder.now)
    c.args.sums.now c.args.token.now
    c.as_slice-footings.result.now
    (stand_as _ _ _ _ _ _ c.as_slice-footings.ensures.value c.in_ok-found.ensures.found)
    c.in_ok-tree.tree c.in_ok-tree.ensures.found c.in_ok-by.by c.in_ok-by.ensures.has c.in_ok-by.ensures.stamps
    c.in_ok-by.ensures.later c.in_ok-test_lines.ensures.tested _ _ c.put_lines.result c.put_lines.ensures.put
    c.put_lines.ensures.failed in
    record { renewed = how.0; failed = how.1 }
