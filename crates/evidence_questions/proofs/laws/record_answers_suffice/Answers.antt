use Rattle.evidence_questions.proofs.Alike.{pass_alike, fail_alike, last_alike}
use Rattle.evidence_questions.proofs.Verdicts.{show_alike, refused_alike}
use Rattle.evidence_questions.proofs.laws.record_answers_suffice.Goals as goal

pub returns-clause-passing : goal.returns-clause-passing
returns-clause-passing c = pass_alike

pub returns-clause-failures : goal.returns-clause-failures
returns-clause-failures c = fail_alike

pub returns-clause-lasting : goal.returns-clause-lasting
returns-clause-lasting c = last_alike

pub returns-clause-showing : goal.returns-clause-showing
returns-clause-showing c = show_alike

pub returns-clause-refusing : goal.returns-clause-refusing
returns-clause-refusing c = refused_alike
