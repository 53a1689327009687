use Rattle.evidence_making.proofs.Rows.{made_rows, leaf_rows, renewed_rows}
use Rattle.evidence_making.proofs.laws.making_rows_hold.Goals as goal

pub returns-clause-made : goal.returns-clause-made
returns-clause-made c = made_rows

pub returns-clause-renewed : goal.returns-clause-renewed
returns-clause-renewed c = renewed_rows

pub returns-clause-leaves : goal.returns-clause-leaves
returns-clause-leaves c = leaf_rows
