use Rattle.std.proofs.Common.{sym, ap, ◌∙◌}
use Rattle.list_answers.specs.AnswersText.{asked_of_lines}
use Rattle.list_answers.proofs.Behind.{before_stated, fault_there}
use Rattle.list_answers.proofs.answers.test.Goals as goal

pub loop-line-preserved : goal.loop-line-preserved
loop-line-preserved c = before_stated c.again-left.result c.loop-line.left c.in-Some.others c.in-Some.line _
    c.in-Some.ensures c.line.view_is
    (sym c.if-not-states.ensures) c.loop-line.invariant

pub returns-then-not-states-clause-tested : goal.returns-then-not-states-clause-tested
returns-then-not-states-clause-tested c = ap asked_of_lines (sym c.again-left.ensures)
    ∙ fault_there c.again-left.result c.loop-line.left c.in-Some.others c.in-Some.line _ c.fault_at.result
    c.in-Some.ensures c.line.view_is
    (sym c.if-not-states.ensures) c.fault_at.ensures c.loop-line.invariant
