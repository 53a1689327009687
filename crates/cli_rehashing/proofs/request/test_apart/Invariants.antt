use Rattle.std.proofs.Common.{length}
use Rattle.std.specs.Prelude.{IsUtf8}
use Rattle.std.specs.List.{AllByRecursion}
use Rattle.cli_rehashing.specs.Rehashing.{IsApart}
use Rattle.cli_rehashing.proofs.Walks.{Walked}
use Rattle.cli_rehashing.proofs.request.test_apart.Given as goal

-- the request goes into the file of none of the lines so far
abbrev pub invariant-loop-sum : goal.invariant-loop-sum
invariant-loop-sum g l = record {
  named : AllByRecursion (λ s. IsUtf8 s.name) l.left;
  walked : Walked (λ front. IsApart l.words front) l.left l.sums;
}

abbrev pub decreases-loop-sum : goal.decreases-loop-sum
decreases-loop-sum g l = length l.left
