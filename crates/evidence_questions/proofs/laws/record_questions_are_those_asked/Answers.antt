use Rattle.evidence_questions.proofs.Checks.{checks_listed}
use Rattle.evidence_questions.proofs.Members.{members, asked_listed, some_of_record, one_of_record}
use Rattle.evidence_questions.proofs.laws.record_questions_are_those_asked.Goals as goal

pub returns-clause-members : goal.returns-clause-members
returns-clause-members c = members

pub returns-clause-asked : goal.returns-clause-asked
returns-clause-asked c = asked_listed

pub returns-clause-checks : goal.returns-clause-checks
returns-clause-checks c = checks_listed

pub returns-clause-some : goal.returns-clause-some
returns-clause-some c = some_of_record

pub returns-clause-one : goal.returns-clause-one
returns-clause-one c = one_of_record
