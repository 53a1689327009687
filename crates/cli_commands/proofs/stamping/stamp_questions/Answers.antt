use Rattle.cli_commands.proofs.StampsChecked.{or_of_list}
use Rattle.cli_commands.proofs.stamping.stamp_questions.Goals as goal

pub returns-clause-refused : goal.returns-clause-refused
returns-clause-refused g c =
    or_of_list _ c.args.words.now c.stamp_questions_by.result c.stamp_questions_by.ensures.refused
