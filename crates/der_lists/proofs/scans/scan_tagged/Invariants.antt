use Rattle.std.proofs.Common.{◌+◌, ◌≤◌, length, []}
use Rattle.der_core.specs.Element.{IsBytes}
use Rattle.der_lists.specs.Items.{opaque_item}
use Rattle.der_lists.specs.Checked.{checked_in, tag_at}
use Rattle.der_lists.proofs.Items.{Agrees}
use Rattle.der_lists.proofs.scans.scan_tagged.Given as goal

-- what is left is a list exactly when the whole body is one, and has the fault of the whole body; the items counted so
-- far and those that are left are all the items, and no more than there are octets
abbrev pub invariant-loop-left : goal.invariant-loop-left
invariant-loop-left l = record {
  octets : IsBytes l.left.rest;
  room : l.count + length l.left.rest ≤ l.most;
  agrees : Agrees l.count (checked_in (λ last. tag_at l.tags) opaque_item [] l.left)
      (checked_in (λ last. tag_at l.fn.tags) opaque_item [] l.fn.list);
}

abbrev pub decreases-loop-left : goal.decreases-loop-left
decreases-loop-left l = length l.left.rest
