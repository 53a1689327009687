use Rattle.std.proofs.Common.{◌≡◌, length}
use Rattle.check_evidence.specs.ListTests.{is_among}
use Rattle.check_evidence.proofs.list_tests.is_among.Given as goal

-- it is among all exactly if it is among those that are left
abbrev pub invariant-loop-other : goal.invariant-loop-other
invariant-loop-other l = is_among l.values l.value ≡ is_among l.left l.value

abbrev pub decreases-loop-other : goal.decreases-loop-other
decreases-loop-other l = length l.left
