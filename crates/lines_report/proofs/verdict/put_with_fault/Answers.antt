use Rattle.std.proofs.Common.{ℕ, List, ◌++◌, refl, ap, ◌∙◌}
use Rattle.std.specs.Prelude.{codes}
use Rattle.der_core.specs.FaultTexts.{fault_text, kind_text}
use Rattle.devices.proofs.Putting.{two_puts}
use Rattle.lines_report.proofs.Texts.{two_texts}
use Rattle.lines_report.proofs.verdict.put_with_fault.Goals as goal

pub returns-clause-wrote : goal.returns-clause-wrote
returns-clause-wrote g c = two_texts
    (two_puts g.S.Sink.tells g.S.Sink.taken g.S.Sink.failures c.args.sink.now c.put_two.new.sink c.put_three.new.sink
    c.put_two.ensures.telling c.put_three.result)
    (c.args.word.now ++ codes " ") (c.args.word.now ++ codes " ")
    (c.text.result.now ++ codes " at " ++ c.format.result.now) (fault_text c.args.fault.now) refl
    (ap (λ (t : List ℕ). t ++ codes " at " ++ c.format.result.now) c.text.ensures
    ∙ ap (λ (t : List ℕ). kind_text c.args.fault.now.kind ++ codes " at " ++ t) c.format.ensures.text)
    c.in_ok-put_two.ensures.wrote c.put_three.ensures.wrote
