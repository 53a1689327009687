use Rattle.evidence_questions.proofs.Rows.{question_rows}
use Rattle.evidence_questions.proofs.laws.record_question_rows_hold.Goals as goal

pub returns : goal.returns
returns c = question_rows
