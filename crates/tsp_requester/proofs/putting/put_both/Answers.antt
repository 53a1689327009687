use Rattle.devices.proofs.Putting.{two_puts, wrote_next}
use Rattle.tsp_requester.proofs.putting.put_both.Goals as goal

pub returns-clause-wrote : goal.returns-clause-wrote
returns-clause-wrote g c = wrote_next
    (two_puts g.S.Sink.tells g.S.Sink.taken g.S.Sink.failures c.args.out.now c.put_all.new.sink c.put_all-2.new.sink
    c.put_all.ensures.telling c.put_all-2.result)
    c.args.first.now c.args.second.now c.in_ok-put_all.ensures.wrote c.put_all-2.ensures.wrote
