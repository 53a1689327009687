use Rattle.std.proofs.lemmas.Result.{err_from_is_err_and}
use Rattle.cli_making.proofs.Requested.{unrequested, unwritten}
use Rattle.cli_making.proofs.request.make_root_request.Goals as goal

pub returns-in_err-octets-clause-failed : goal.returns-in_err-octets-clause-failed
returns-in_err-octets-clause-failed g c =
    let p = err_from_is_err_and c.from_residual-in_err-octets.result c.from_residual-in_err-octets.ensures.1 in
    rw (p.1, p.2) (unrequested _ c.args.words.now _ c.in_err-octets.ensures.refused)

pub returns-in_err-write_whole-clause-failed : goal.returns-in_err-write_whole-clause-failed
returns-in_err-write_whole-clause-failed g c =
    let p = err_from_is_err_and c.from_residual-in_err-write_whole.result
    c.from_residual-in_err-write_whole.ensures.1 in
    rw (p.1, p.2) (unwritten _ c.args.words.now c.in_ok-octets.octets.items _ c.in_ok-octets.ensures.made
    c.in_err-write_whole.ensures.failure)
