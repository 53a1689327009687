use Rattle.std.proofs.Common.{length}
use Rattle.der_core.specs.SetOrder.{InOrder}
use Rattle.der_core.proofs.Ordered.{Passed, Follows}
use Rattle.der_core.proofs.order.in_order.Given as goal

-- elements in ascending order were passed; and if the whole body is in order, what is left follows them
abbrev pub invariant-loop-cursor : goal.invariant-loop-cursor
invariant-loop-cursor l = record {
  passed : Passed l.body l.cursor l.last;
  follows : InOrder l.body → Follows l.last l.cursor.rest;
}

abbrev pub decreases-loop-cursor : goal.decreases-loop-cursor
decreases-loop-cursor l = length l.cursor.rest
