use Rattle.std.proofs.Common.{List, Option, ℕ, length}
use Rattle.std.specs.Prelude.{IsUtf8}
use Rattle.std.specs.List.{AllByRecursion}
use Rattle.cli_renewing.specs.Records.{ArePut}
use Rattle.cli_rehashing.specs.Rehashing.{rehashing}
use Rattle.cli_rehashing.proofs.Walks.{Walked}
use Rattle.cli_rehashing.proofs.rehash.put_lines.Given as goal

-- the records of the lines so far are renewed, and were put, and no others
abbrev pub invariant-loop-sum : goal.invariant-loop-sum
invariant-loop-sum g l = record {
  named : AllByRecursion (λ s. IsUtf8 s.name) l.left;
  walked : Walked (λ front. (news : List (Option (List ℕ)))
      × ArePut g.K.KeepsBelow.ways (g.K.KeepsBelow.put l.fn.keeps) (g.K.KeepsBelow.put l.keeps)
      (rehashing l.folder l.by.tree.now l.by.token.now l.by.moment) front news) l.left l.sums;
}

abbrev pub decreases-loop-sum : goal.decreases-loop-sum
decreases-loop-sum g l = length l.left
