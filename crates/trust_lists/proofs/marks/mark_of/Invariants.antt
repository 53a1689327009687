use Rattle.std.proofs.Common.{◌≡◌, length}
use Rattle.trust_lists.specs.Marks.{mark_of}
use Rattle.trust_lists.proofs.marks.mark_of.Given as goal

-- the mark of what is left behind the mark so far is that of all
abbrev pub invariant-loop-left : goal.invariant-loop-left
invariant-loop-left l = mark_of l.mark l.left ≡ mark_of l.initial.mark l.octets

abbrev pub decreases-loop-left : goal.decreases-loop-left
decreases-loop-left l = length l.left
