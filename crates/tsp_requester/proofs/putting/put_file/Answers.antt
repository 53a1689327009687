use Rattle.std.proofs.Common.{◌++◌}
use Rattle.std.proofs.lemmas.Result.{err_from_is_err_and}
use Rattle.tsp_requester.specs.Pieces.{openings_octets}
use Rattle.devices.proofs.Putting.{two_puts, wrote_next, wrote_part}
use Rattle.tsp_requester.proofs.putting.put_file.Goals as goal

pub returns-in_err-put_openings-clause-wrote : goal.returns-in_err-put_openings-clause-wrote
returns-in_err-put_openings-clause-wrote g c =
    let p = err_from_is_err_and c.from_residual.result c.from_residual.ensures.1 in
    rw p.1 (wrote_part p.0 (g.S.Sink.tells c.args.out.now) (g.S.Sink.taken c.args.out.now)
    (g.S.Sink.taken c.put_openings.new.out)
    (g.S.Sink.failures c.args.out.now) (g.S.Sink.failures c.put_openings.new.out)
    (openings_octets c.args.openings.now) (c.args.token.now ++ c.args.behind.now) c.in_err-put_openings.ensures.wrote)

pub returns-clause-wrote : goal.returns-clause-wrote
returns-clause-wrote g c = wrote_next
    (two_puts g.S.Sink.tells g.S.Sink.taken g.S.Sink.failures c.args.out.now c.put_openings.new.out c.put_both.new.out
    c.put_openings.ensures.telling c.put_both.result)
    (openings_octets c.args.openings.now)
    (c.args.token.now ++ c.args.behind.now) c.in_ok-put_openings.ensures.wrote c.put_both.ensures.wrote
