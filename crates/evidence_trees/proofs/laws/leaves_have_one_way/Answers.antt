use Rattle.evidence_trees.proofs.Ways.{leaves_have_one, ways_show}
use Rattle.evidence_trees.proofs.laws.leaves_have_one_way.Goals as goal

pub returns-clause-one : goal.returns-clause-one
returns-clause-one c = leaves_have_one

pub returns-clause-shows : goal.returns-clause-shows
returns-clause-shows c = ways_show
