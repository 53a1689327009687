use Rattle.evidence_making.proofs.RenewalRows.{stamping_rows, root_rows, last_rows, done_rows}
use Rattle.evidence_making.proofs.laws.renewal_rows_hold.Goals as goal

pub returns-clause-stamping : goal.returns-clause-stamping
returns-clause-stamping c = stamping_rows

pub returns-clause-roots : goal.returns-clause-roots
returns-clause-roots c = root_rows

pub returns-clause-last : goal.returns-clause-last
returns-clause-last c = last_rows

pub returns-clause-done : goal.returns-clause-done
returns-clause-done c = done_rows
