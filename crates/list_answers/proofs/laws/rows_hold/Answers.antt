use Rattle.list_answers.proofs.Rows.{answers_rows}
use Rattle.list_answers.proofs.laws.rows_hold.Goals as goal

pub returns : goal.returns
returns c = answers_rows
