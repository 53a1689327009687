use Rattle.std.proofs.Common.{◌≡◌, ◌+◌, length}
use Rattle.lines_shown.specs.EvidenceLines.{values_count}
use Rattle.lines_shown.proofs.show_evidence.values_in.Given as goal

-- the hash values so far, and those of the lists that are left, are all
abbrev pub invariant-loop-list : goal.invariant-loop-list
invariant-loop-list l = l.count + values_count l.left ≡ values_count l.lists

abbrev pub decreases-loop-list : goal.decreases-loop-list
decreases-loop-list l = length l.left
