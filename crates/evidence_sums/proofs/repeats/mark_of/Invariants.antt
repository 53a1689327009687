use Rattle.std.proofs.Common.{◌≡◌, take}
use Rattle.std.specs.List.{fold}
use Rattle.evidence_sums.specs.Marks.{next_mark}
use Rattle.evidence_sums.proofs.repeats.mark_of.Given as goal

-- the mark of the octets so far
abbrev pub invariant-loop-octet : goal.invariant-loop-octet
invariant-loop-octet l = l.mark ≡ fold next_mark 0 (take l.octet-index l.octets)
