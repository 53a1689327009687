use Rattle.evidence_sums.proofs.Rows.{records_rows, sums_rows}
use Rattle.evidence_sums.proofs.laws.rows_hold.Goals as goal

pub returns : goal.returns
returns c = record { sums = sums_rows; records = records_rows }
