use Rattle.evidence_types.proofs.Rows.{evidence_rows, evidence_fault_rows}
use Rattle.evidence_types.proofs.laws.evidence_rows_hold.Goals as goal

pub returns : goal.returns
returns c = record { records = evidence_rows; faults = evidence_fault_rows }
