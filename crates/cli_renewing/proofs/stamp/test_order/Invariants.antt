use Rattle.std.proofs.Common.{take}
use Rattle.cli_renewing.specs.Footings.{ComesAfter}
use Rattle.cli_renewing.proofs.stamp.test_order.Given as goal

-- the moment is later than those so far
abbrev pub invariant-loop-footing : goal.invariant-loop-footing
invariant-loop-footing l = ComesAfter l.moment (take l.footing-index l.footings)
