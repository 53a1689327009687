use Rattle.std.proofs.Common.{◌≡◌, ◌≤◌, ◌<◌, ◌-◌, length, drop}
use Rattle.evidence_trees.specs.HashTrees.{level_at}
use Rattle.evidence_trees.specs.Climbing.{levels}
use Rattle.evidence_trees.proofs.nodes.raise.Given as goal

-- the nodes are so many levels, of which the last begins at `start`
abbrev pub invariant-loop-start : goal.invariant-loop-start
invariant-loop-start l = record {
  size : l.nodes.size ≡ l.initial.nodes.size;
  levels : l.nodes.values ≡ levels l.alg l.height l.initial.nodes.values;
  last : drop l.start l.nodes.values ≡ level_at l.alg l.height l.initial.nodes.values;
  some : l.start < length l.nodes.values;
  few : l.height ≤ l.start;
}

abbrev pub decreases-loop-start : goal.decreases-loop-start
decreases-loop-start l = length l.nodes.values - l.start
