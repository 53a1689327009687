use Rattle.std.proofs.Common.{◌≡◌, ◌≤◌, length}
use Rattle.evidence_trees.specs.Climbing.{neighbours_from, HasLevels}
use Rattle.evidence_trees.proofs.leaf_lists.next_beside.Given as goal

-- the neighbours from here on are those from the node on
abbrev pub invariant-loop-at : goal.invariant-loop-at
invariant-loop-at l = record {
  left : l.at.left ≤ length l.nodes.values;
  levels : HasLevels l.at.above l.at.place l.at.count l.at.left;
  same : neighbours_from l.at.above l.at.place l.at.count l.at.left l.nodes.values
      ≡ neighbours_from l.initial.at.above l.initial.at.place l.initial.at.count l.initial.at.left l.nodes.values;
}

abbrev pub decreases-loop-at : goal.decreases-loop-at
decreases-loop-at l = l.at.above
