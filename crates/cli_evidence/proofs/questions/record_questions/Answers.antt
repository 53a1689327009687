use Rattle.cli_evidence.proofs.Unopened.{or_of_list}
use Rattle.cli_evidence.proofs.questions.record_questions.Goals as goal

pub returns-clause-refused : goal.returns-clause-refused
returns-clause-refused g c =
    or_of_list _ c.args.words.now c.record_questions_by.result c.record_questions_by.ensures.refused
