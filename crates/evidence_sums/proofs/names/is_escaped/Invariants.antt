use Rattle.std.proofs.Common.{◌≡◌, length}
use Rattle.evidence_sums.specs.Names.{is_escaped, is_escaped_behind}
use Rattle.evidence_sums.proofs.names.is_escaped.Given as goal

-- all stands well exactly if what is left does
abbrev pub invariant-loop-first : goal.invariant-loop-first
invariant-loop-first l = is_escaped_behind l.behind l.left ≡ is_escaped l.octets

abbrev pub decreases-loop-first : goal.decreases-loop-first
decreases-loop-first l = length l.left
