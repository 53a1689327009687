use Rattle.check_questions.proofs.Rows.{file_rows, signer_rows, text_rows}
use Rattle.check_questions.proofs.laws.rows_hold.Goals as goal

pub returns-clause-files : goal.returns-clause-files
returns-clause-files c = file_rows

pub returns-clause-signers : goal.returns-clause-signers
returns-clause-signers c = signer_rows

pub returns-clause-texts : goal.returns-clause-texts
returns-clause-texts c = text_rows
