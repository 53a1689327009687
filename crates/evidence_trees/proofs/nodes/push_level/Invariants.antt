use Rattle.std.proofs.Common.{◌≡◌, ◌≤◌, ◌-◌, ◌++◌, length, take, drop}
use Rattle.evidence_trees.specs.HashTrees.{level_above}
use Rattle.evidence_trees.proofs.nodes.push_level.Given as goal

-- the nodes before are as they were, and those that were added, with the level above what is left, are the level above
abbrev pub invariant-loop-at : goal.invariant-loop-at
invariant-loop-at l = record {
  size : l.nodes.size ≡ l.initial.nodes.size;
  end : l.end ≡ length l.initial.nodes.values;
  within : l.at ≤ l.end;
  front : take l.end l.nodes.values ≡ l.initial.nodes.values;
  level : l.nodes.values ++ level_above l.alg (drop l.at l.initial.nodes.values)
      ≡ l.initial.nodes.values ++ level_above l.alg (drop l.start l.initial.nodes.values);
}

abbrev pub decreases-loop-at : goal.decreases-loop-at
decreases-loop-at l = l.end - l.at
