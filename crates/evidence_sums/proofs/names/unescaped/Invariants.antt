use Rattle.std.proofs.Common.{◌≡◌, ◌++◌, length}
use Rattle.evidence_sums.specs.Names.{unescaped, unescaped_behind}
use Rattle.evidence_sums.proofs.names.unescaped.Given as goal

-- the name so far, and that of the octets that are left, are all
abbrev pub invariant-loop-first : goal.invariant-loop-first
invariant-loop-first l = l.name.items ++ unescaped_behind l.behind l.left ≡ unescaped l.octets

abbrev pub decreases-loop-first : goal.decreases-loop-first
decreases-loop-first l = length l.left
