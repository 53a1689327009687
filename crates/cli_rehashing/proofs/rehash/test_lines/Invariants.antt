use Rattle.std.proofs.Common.{length}
use Rattle.std.specs.Prelude.{IsUtf8}
use Rattle.std.specs.List.{AllByRecursion}
use Rattle.cli_renewing.specs.Records.{AreTested}
use Rattle.cli_rehashing.specs.Rehashing.{rehashing}
use Rattle.cli_rehashing.proofs.Walks.{Walked}
use Rattle.cli_rehashing.proofs.rehash.test_lines.Given as goal

-- the records of the lines so far can be renewed, and put into their places
abbrev pub invariant-loop-sum : goal.invariant-loop-sum
invariant-loop-sum g l = record {
  named : AllByRecursion (λ s. IsUtf8 s.name) l.left;
  walked : Walked (λ front.
      AreTested g.K.KeepsBelow.ways (rehashing l.folder l.by.tree.now l.by.token.now l.by.moment) front) l.left l.sums;
}

abbrev pub decreases-loop-sum : goal.decreases-loop-sum
decreases-loop-sum g l = length l.left
