use Rattle.std.proofs.Common.{◌++◌, refl}
use Rattle.devices.proofs.Putting.{two_puts}
use Rattle.lines_report.proofs.Texts.{two_texts}
use Rattle.lines_report.proofs.verdict.put_three.Goals as goal

pub returns-clause-wrote : goal.returns-clause-wrote
returns-clause-wrote g c = two_texts
    (two_puts g.S.Sink.tells g.S.Sink.taken g.S.Sink.failures c.args.sink.now c.put_two.new.sink c.put_all.new.sink
    c.put_two.ensures.telling c.put_all.result)
    (c.args.first.now ++ c.args.second.now)
    (c.args.first.now ++ c.args.second.now) c.as_bytes.result.now c.args.third.now refl
    c.as_bytes.ensures.value c.in_ok-put_two.ensures.wrote c.put_all.ensures.wrote
