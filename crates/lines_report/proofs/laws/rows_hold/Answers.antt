use Rattle.lines_report.proofs.Rows.{line_rows}
use Rattle.lines_report.proofs.laws.rows_hold.Goals as goal

pub returns : goal.returns
returns c = line_rows
