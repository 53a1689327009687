use Rattle.std.proofs.Common.{length}
use Rattle.cli_failures.proofs.Taking.{UpTo}
use Rattle.cli_failures.proofs.output.put.Given as goal

-- the octets up to those that are left were taken
abbrev pub invariant-loop-left : goal.invariant-loop-left
invariant-loop-left g l = UpTo l.octets l.left (g.O.Write.contents l.fn.out) (g.O.Write.contents l.out)

abbrev pub decreases-loop-left : goal.decreases-loop-left
decreases-loop-left g l = length l.left
