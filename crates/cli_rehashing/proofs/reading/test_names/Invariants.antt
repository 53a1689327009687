use Rattle.std.proofs.Common.{length}
use Rattle.cli_rehashing.specs.Lines.{AreNamed}
use Rattle.cli_rehashing.proofs.Walks.{Walked}
use Rattle.cli_rehashing.proofs.reading.test_names.Given as goal

-- the names so far are text
abbrev pub invariant-loop-sum : goal.invariant-loop-sum
invariant-loop-sum l = Walked (λ front. AreNamed front) l.left l.sums

abbrev pub decreases-loop-sum : goal.decreases-loop-sum
decreases-loop-sum l = length l.left
