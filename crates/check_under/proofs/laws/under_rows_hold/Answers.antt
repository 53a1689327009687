use Rattle.check_under.proofs.Rows.{beside_rows, under_rows}
use Rattle.check_under.proofs.laws.under_rows_hold.Goals as goal

pub returns-clause-beside : goal.returns-clause-beside
returns-clause-beside c = beside_rows

pub returns-clause-under : goal.returns-clause-under
returns-clause-under c = under_rows
