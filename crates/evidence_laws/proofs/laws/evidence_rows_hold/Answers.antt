use Rattle.evidence_laws.proofs.Rows.{end_rows, beside_rows}
use Rattle.evidence_laws.proofs.laws.evidence_rows_hold.Goals as goal

pub returns-clause-ends : goal.returns-clause-ends
returns-clause-ends c = end_rows

pub returns-clause-beside : goal.returns-clause-beside
returns-clause-beside c = beside_rows
