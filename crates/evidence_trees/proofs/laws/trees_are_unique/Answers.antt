use Rattle.evidence_trees.proofs.Uniqueness.{one_tree, one_root, nodes_are}
use Rattle.evidence_trees.proofs.laws.trees_are_unique.Goals as goal

pub returns-clause-unique : goal.returns-clause-unique
returns-clause-unique c = one_tree

pub returns-clause-one_root : goal.returns-clause-one_root
returns-clause-one_root c = one_root

pub returns-clause-nodes : goal.returns-clause-nodes
returns-clause-nodes c = nodes_are
