use Rattle.check_evidence.proofs.Rows.{root_rows, order_rows, covered_rows, covering_rows}
use Rattle.check_evidence.proofs.laws.evidence_rules_hold.Goals as goal

pub returns-clause-roots : goal.returns-clause-roots
returns-clause-roots c = root_rows

pub returns-clause-order : goal.returns-clause-order
returns-clause-order c = order_rows

pub returns-clause-covered : goal.returns-clause-covered
returns-clause-covered c = covered_rows

pub returns-clause-covering : goal.returns-clause-covering
returns-clause-covering c = covering_rows
