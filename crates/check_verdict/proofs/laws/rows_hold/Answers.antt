use Rattle.check_verdict.proofs.Rows.{value_rows}
use Rattle.check_verdict.proofs.RowsJudged.{token_rows, file_rows}
use Rattle.check_verdict.proofs.TwoTokens.{two_token_rows}
use Rattle.check_verdict.proofs.laws.rows_hold.Goals as goal

pub returns-clause-values : goal.returns-clause-values
returns-clause-values c = value_rows

pub returns-clause-token : goal.returns-clause-token
returns-clause-token c = token_rows

pub returns-clause-file : goal.returns-clause-file
returns-clause-file c = file_rows

pub returns-clause-two_tokens : goal.returns-clause-two_tokens
returns-clause-two_tokens c = two_token_rows
