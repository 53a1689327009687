use Rattle.std.proofs.Common.{◌≡◌, ap}
use Rattle.cli_tasks.specs.declared.task.Task.TheVariants as task
use Rattle.cli_tasks.specs.declared.task.TextTask.TheVariants as text
use Rattle.cli_commands.proofs.Malformed.{fault_reported, refusal_reported}
use Rattle.cli_commands.proofs.Questioning.{questions_told, questions_malformed, questions_refused, questions_cut}
use Rattle.cli_commands.proofs.Undone.{reported}
use Rattle.cli_commands.proofs.telling.run.Goals as goal

pub returns-in-Err-clause-told : goal.returns-in-Err-clause-told
returns-in-Err-clause-told g c =
    rw c.in-Questions.is
    (questions_told c.in-Err.failure c.report.result _ _ _ c.report.ensures.status c.in-Err.ensures.kept _ _ _
    c.in-Err.ensures.refused c.report.ensures.told c.report.ensures.refused)

pub returns-in-Err-clause-malformed : goal.returns-in-Err-clause-malformed
returns-in-Err-clause-malformed g c = questions_malformed c.in-Err.failure c.report.result _ _ _ c.report.ensures.status
    c.in-Err.ensures.kept c.report.ensures.told

pub returns-in-Err-clause-refused : goal.returns-in-Err-clause-refused
returns-in-Err-clause-refused g c =
    questions_refused c.in-Err.failure c.report.result _ _ _ c.report.ensures.status c.in-Err.ensures.kept
    c.report.ensures.refused

pub returns-in-Err-clause-cut : goal.returns-in-Err-clause-cut
returns-in-Err-clause-cut g c =
    rw c.in-Questions.is
    (questions_cut _ _ _ c.in-Err.failure c.report.result (g.O.Write.contents c.args.out.now)
    (g.O.Write.contents c.ask.new.out) (g.O.Write.contents c.report.new.out) c.in-Err.ensures.refused
    c.in-Err.ensures.cut c.report.ensures.cut (λ e. ap g.O.Write.contents (c.report.ensures.failed e)))

pub returns-in-Ok-text_of-clause-written : goal.returns-in-Ok-text_of-clause-written
returns-in-Ok-text_of-clause-written g c words path is wanted done =
    let at : c.args.task ≡ task.Text c.in-Text.task = c.in-Text.is in
    let same : c.in-Text.task ≡ text.Match words = cc in
    c.in-Ok-text_of.ensures.written words path same wanted

pub returns-in-Err-text_of-clause-made : goal.returns-in-Err-text_of-clause-made
returns-in-Err-text_of-clause-made g c words is done =
    absurd
    (reported c.in-Err-text_of.failure c.report-in-Err-text_of.result c.report-in-Err-text_of.ensures.status done)

pub returns-in-Err-text_of-clause-malformed : goal.returns-in-Err-text_of-clause-malformed
returns-in-Err-text_of-clause-malformed g c =
    fault_reported c.in-Err-text_of.failure c.report-in-Err-text_of.result _ _ c.report-in-Err-text_of.ensures.status
    c.report-in-Err-text_of.ensures.told

pub returns-in-Err-text_of-clause-refused : goal.returns-in-Err-text_of-clause-refused
returns-in-Err-text_of-clause-refused g c =
    refusal_reported c.in-Err-text_of.failure c.report-in-Err-text_of.result _ _ c.report-in-Err-text_of.ensures.status
    c.report-in-Err-text_of.ensures.refused
