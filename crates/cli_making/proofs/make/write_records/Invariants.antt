use Rattle.std.proofs.Common.{length}
use Rattle.cli_making.specs.Leaves.{AreReady}
use Rattle.cli_making.proofs.Walked.{Written}
use Rattle.cli_making.proofs.make.write_records.Given as goal

-- the same; and the files of those before were put, and no others
abbrev pub invariant-loop-sum : goal.invariant-loop-sum
invariant-loop-sum g l = record {
  ready : AreReady l.by.tree.now l.left;
  written : Written g.P.Puts.did l.folder l.by.tree.now l.by.token.now (g.P.Puts.put l.fn.puts)
      (g.P.Puts.put l.puts) l.left l.sums;
}

abbrev pub decreases-loop-sum : goal.decreases-loop-sum
decreases-loop-sum g l = length l.left
