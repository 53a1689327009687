use Rattle.cli_renewing.proofs.Standings.{no_footing}
use Rattle.cli_renewing.proofs.footing.last_of.Goals as goal

pub returns-in-Err-clause-refused : goal.returns-in-Err-clause-refused
returns-in-Err-clause-refused c =
    rw c.from.ensures
    (no_footing c.args.octets.now c.last_stamp.result c.in-Err.fault c.in-Err.is c.last_stamp.ensures.no_stamp
    c.last_stamp.ensures.malformed c.in-Err.ensures.other)
