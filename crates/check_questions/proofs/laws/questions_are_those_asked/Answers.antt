use Rattle.check_questions.proofs.Members.{members, members_of_token}
use Rattle.check_questions.proofs.Files.{some_of_file, one_of_file, some_of_alone, one_of_alone}
use Rattle.check_questions.proofs.laws.questions_are_those_asked.Goals as goal

pub returns-clause-members : goal.returns-clause-members
returns-clause-members c = members

pub returns-clause-some : goal.returns-clause-some
returns-clause-some c = some_of_file

pub returns-clause-one : goal.returns-clause-one
returns-clause-one c = one_of_file

pub returns-clause-members_of_token : goal.returns-clause-members_of_token
returns-clause-members_of_token c = members_of_token

pub returns-clause-some_of_token : goal.returns-clause-some_of_token
returns-clause-some_of_token c = some_of_alone

pub returns-clause-one_of_token : goal.returns-clause-one_of_token
returns-clause-one_of_token c = one_of_alone
