use Rattle.std.proofs.Common.{◌+◌, ◌≤◌, length}
use Rattle.der_core.specs.Element.{IsBytes}
use Rattle.der_core.specs.Reading.{many_in}
use Rattle.der_lists.proofs.Items.{Agrees}
use Rattle.der_lists.proofs.scans.scan_items.Given as goal

-- what is left is a list exactly when the whole body is one, and has the fault of the whole body; the items counted so
-- far and those that are left are all the items, and no more than there are octets
abbrev pub invariant-loop-left : goal.invariant-loop-left
invariant-loop-left g l = record {
  octets : IsBytes l.left.rest;
  room : l.count + length l.left.rest ≤ l.most;
  agrees : Agrees l.count (many_in g.I.Item.reading l.left) (many_in g.I.Item.reading l.fn.list);
}

abbrev pub decreases-loop-left : goal.decreases-loop-left
decreases-loop-left g l = length l.left.rest
