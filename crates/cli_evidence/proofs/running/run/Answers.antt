use Rattle.cli_commands.proofs.Malformed.{fault_reported, refusal_reported}
use Rattle.cli_commands.proofs.Undone.{reported}
use Rattle.cli_evidence.proofs.running.run.Goals as goal

pub returns-in-Err-clause-refused : goal.returns-in-Err-clause-refused
returns-in-Err-clause-refused g c =
    refusal_reported c.in-Err.failure c.report.result _ _ c.report.ensures.status c.report.ensures.refused

pub returns-in-Err-clause-malformed : goal.returns-in-Err-clause-malformed
returns-in-Err-clause-malformed g c =
    fault_reported c.in-Err.failure c.report.result _ _ c.report.ensures.status c.report.ensures.told

pub returns-in-Err-clause-made : goal.returns-in-Err-clause-made
returns-in-Err-clause-made g c words is done =
    absurd (reported c.in-Err.failure c.report.result c.report.ensures.status done)

pub returns-in-Err-clause-renewal : goal.returns-in-Err-clause-renewal
returns-in-Err-clause-renewal g c words is done =
    absurd (reported c.in-Err.failure c.report.result c.report.ensures.status done)

pub returns-in-Err-clause-elsewhere : goal.returns-in-Err-clause-elsewhere
returns-in-Err-clause-elsewhere g c words is done =
    absurd (reported c.in-Err.failure c.report.result c.report.ensures.status done)

pub returns-in-Err-clause-renewed : goal.returns-in-Err-clause-renewed
returns-in-Err-clause-renewed g c words is done =
    absurd (reported c.in-Err.failure c.report.result c.report.ensures.status done)

pub returns-in-Ok-clause-renewed : goal.returns-in-Ok-clause-renewed
returns-in-Ok-clause-renewed g c words is done = c.in-Ok.ensures.renewed words is

pub returns-in-Err-clause-asked : goal.returns-in-Err-clause-asked
returns-in-Err-clause-asked g c words is done =
    absurd (reported c.in-Err.failure c.report.result c.report.ensures.status done)

pub returns-in-Err-clause-rehashed : goal.returns-in-Err-clause-rehashed
returns-in-Err-clause-rehashed g c words is done =
    absurd (reported c.in-Err.failure c.report.result c.report.ensures.status done)

pub returns-in-Ok-clause-rehashed : goal.returns-in-Ok-clause-rehashed
returns-in-Ok-clause-rehashed g c words is done = c.in-Ok.ensures.rehashed words is
