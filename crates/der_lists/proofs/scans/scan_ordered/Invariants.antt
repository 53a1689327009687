use Rattle.std.proofs.Common.{◌+◌, ◌≤◌, length, []}
use Rattle.der_core.specs.Element.{IsBytes}
use Rattle.der_lists.specs.Checked.{checked_in, rank_at}
use Rattle.der_lists.proofs.Items.{Agrees}
use Rattle.der_lists.proofs.scans.scan_ordered.Given as goal

-- what is left is a list in order after the last element exactly when the whole body is one, and has the fault of the
-- whole body; the items counted so far and those that are left are all the items, and no more than there are octets
abbrev pub invariant-loop-last : goal.invariant-loop-last
invariant-loop-last g l = record {
  octets : IsBytes l.left.rest;
  room : l.count + length l.left.rest ≤ l.most;
  agrees : Agrees l.count (checked_in (rank_at g.I.RankedItem.front) g.I.Item.reading l.last l.left)
      (checked_in (rank_at g.I.RankedItem.front) g.I.Item.reading [] l.fn.list);
}

abbrev pub decreases-loop-last : goal.decreases-loop-last
decreases-loop-last g l = length l.left.rest
