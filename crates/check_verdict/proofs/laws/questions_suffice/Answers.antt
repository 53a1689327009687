use Rattle.check_verdict.proofs.Sufficiency.{yes_suffices, refusals_suffice, passing_suffices, failures_suffice}
use Rattle.check_verdict.proofs.Agreement.{answers_decide}
use Rattle.check_verdict.proofs.laws.questions_suffice.Goals as goal

pub returns-clause-yes : goal.returns-clause-yes
returns-clause-yes c = yes_suffices

pub returns-clause-refusals : goal.returns-clause-refusals
returns-clause-refusals c = refusals_suffice

pub returns-clause-verdicts : goal.returns-clause-verdicts
returns-clause-verdicts c = answers_decide

pub returns-clause-passing : goal.returns-clause-passing
returns-clause-passing c = passing_suffices

pub returns-clause-failures : goal.returns-clause-failures
returns-clause-failures c = failures_suffice
