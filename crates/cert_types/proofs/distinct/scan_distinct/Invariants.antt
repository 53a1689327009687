use Rattle.std.proofs.Common.{◌+◌, ◌≤◌, length}
use Rattle.der_core.specs.Element.{IsBytes}
use Rattle.der_lists.proofs.Items.{Agrees}
use Rattle.cert_types.specs.DistinctExtensions.{distinct_at, distinct_in}
use Rattle.cert_types.proofs.distinct.scan_distinct.Given as goal

-- what is left, together with what was seen, is a list exactly when the whole body is one, and has the fault of the
-- whole body; the extensions counted so far and those that are left are all of them, and no more than there are octets
abbrev pub invariant-loop-list : goal.invariant-loop-list
invariant-loop-list l = record {
  octets : IsBytes l.list.rest;
  room : l.count + length l.list.rest ≤ l.most;
  agrees : Agrees l.count (distinct_at l.seen.identifier l.seen.usage l.list) (distinct_in l.fn.all);
}

abbrev pub decreases-loop-list : goal.decreases-loop-list
decreases-loop-list l = length l.list.rest
