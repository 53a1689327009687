use Rattle.evidence_trees.proofs.Rows.{tree_rows, list_rows, way_rows}
use Rattle.evidence_trees.proofs.laws.tree_rows_hold.Goals as goal

pub returns-clause-trees : goal.returns-clause-trees
returns-clause-trees c = tree_rows

pub returns-clause-lists : goal.returns-clause-lists
returns-clause-lists c = list_rows

pub returns-clause-ways : goal.returns-clause-ways
returns-clause-ways c = way_rows
