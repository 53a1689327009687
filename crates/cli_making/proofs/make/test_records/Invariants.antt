use Rattle.std.proofs.Common.{length}
use Rattle.cli_making.specs.Leaves.{AreReady}
use Rattle.cli_making.proofs.Walked.{Walked}
use Rattle.cli_making.proofs.make.test_records.Given as goal

-- the records of the lines that are left can be made; the files of those before can be put
abbrev pub invariant-loop-sum : goal.invariant-loop-sum
invariant-loop-sum g l = record {
  ready : AreReady l.by.tree.now l.left;
  walked : Walked g.P.Puts.ways.can l.folder l.by.tree.now l.by.token.now l.left l.sums;
}

abbrev pub decreases-loop-sum : goal.decreases-loop-sum
decreases-loop-sum g l = length l.left
