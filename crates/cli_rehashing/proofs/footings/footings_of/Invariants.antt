use Rattle.std.proofs.Common.{length}
use Rattle.std.specs.Prelude.{IsUtf8}
use Rattle.std.specs.List.{AllByRecursion}
use Rattle.std.specs.Option.{option_copied}
use Rattle.cli_rehashing.specs.Footings.{AreLineFootings}
use Rattle.cli_rehashing.proofs.Walks.{Walked}
use Rattle.cli_rehashing.proofs.footings.footings_of.Given as goal

-- what the records of the lines so far stand on
abbrev pub invariant-loop-sum : goal.invariant-loop-sum
invariant-loop-sum g l = record {
  named : AllByRecursion (λ s. IsUtf8 s.name) l.left;
  walked : Walked (λ front. AreLineFootings g.K.KeepsBelow.ways (option_copied l.token) l.folder front
      l.footings.items) l.left l.sums;
}

abbrev pub decreases-loop-sum : goal.decreases-loop-sum
decreases-loop-sum g l = length l.left
