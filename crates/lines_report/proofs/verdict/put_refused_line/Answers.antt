use Rattle.check_fit.specs.RuleTexts.{refused_text}
use Rattle.devices.proofs.Putting.{two_puts}
use Rattle.lines_report.proofs.Texts.{two_texts}
use Rattle.std.proofs.Common.{◌∷◌, [], refl}
use Rattle.lines_report.proofs.verdict.put_refused_line.Goals as goal

pub returns-clause-wrote : goal.returns-clause-wrote
returns-clause-wrote g c = two_texts
    (two_puts g.S.Sink.tells g.S.Sink.taken g.S.Sink.failures c.args.sink.now c.put_refused.new.sink c.put_all.new.sink
    c.put_refused.ensures.telling c.put_all.result)
    (refused_text c.args.refused.now) (refused_text c.args.refused.now) (10 ∷ [])
    (10 ∷ []) refl refl c.in_ok-put_refused.ensures.wrote
    c.put_all.ensures.wrote
