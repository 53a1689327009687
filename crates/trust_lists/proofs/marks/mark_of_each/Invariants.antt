use Rattle.std.proofs.Common.{◌≡◌, take}
use Rattle.std.specs.List.{fold}
use Rattle.trust_lists.specs.Marks.{next_mark}
use Rattle.trust_lists.proofs.marks.mark_of_each.Given as goal

-- the mark of the octets so far
abbrev pub invariant-loop-octet : goal.invariant-loop-octet
invariant-loop-octet l = l.mark ≡ fold next_mark l.initial.mark (take l.octet-index l.octets)
