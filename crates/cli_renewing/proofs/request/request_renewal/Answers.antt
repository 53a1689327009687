use Rattle.std.proofs.lemmas.Result.{err_from_is_err_and}
use Rattle.cli_renewing.proofs.Runs.{unwritten}
use Rattle.cli_renewing.proofs.request.request_renewal.Goals as goal

pub returns-in_err-write_whole-clause-failed : goal.returns-in_err-write_whole-clause-failed
returns-in_err-write_whole-clause-failed g c =
    let p = err_from_is_err_and c.from_residual-in_err-write_whole.result
    c.from_residual-in_err-write_whole.ensures.1 in
    let made = rw c.as_slice.ensures.value at c.in_ok-octets.ensures.made in
    rw (p.1, p.2)
    (unwritten g.R.File.Read.remaining g.R.File.Write.contents c.args.words.now c.in_ok-octets.octets.items _ made
    c.in_err-write_whole.ensures.failure)
