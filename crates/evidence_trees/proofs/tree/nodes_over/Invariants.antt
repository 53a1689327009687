use Rattle.evidence_trees.proofs.tree.nodes_over.Given as goal

abbrev pub decreases-loop-level : goal.decreases-loop-level
decreases-loop-level l = l.level
