use Rattle.devices.proofs.Putting.{two_puts}
use Rattle.lines_report.proofs.Texts.{two_texts}
use Rattle.lines_report.proofs.verdict.put_two.Goals as goal

pub returns-clause-wrote : goal.returns-clause-wrote
returns-clause-wrote g c = two_texts
    (two_puts g.S.Sink.tells g.S.Sink.taken g.S.Sink.failures c.args.sink.now c.put_all.new.sink c.put_all-2.new.sink
    c.put_all.ensures.telling c.put_all-2.result)
    c.as_bytes.result.now c.args.first.now c.as_bytes-2.result.now c.args.second.now c.as_bytes.ensures.value
    c.as_bytes-2.ensures.value
    c.in_ok-put_all.ensures.wrote c.put_all-2.ensures.wrote
