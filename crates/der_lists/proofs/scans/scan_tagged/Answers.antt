use Rattle.std.proofs.Common.{◌≡◌, [], length, eqb, true, false, arith}
use Rattle.std.proofs.lemmas.Result.{err_from_is_err_and}
use Rattle.der_lists.specs.Items.{opaque_item, all_in}
use Rattle.der_lists.specs.Checked.{tag_at, tagged_in}
use Rattle.der_lists.specs.Shorter.{opaque_shorter}
use Rattle.der_lists.proofs.CheckedSteps.{checked_next, checked_refuses, checked_err, checked_end, checked_list}
use Rattle.der_lists.proofs.Items.{agrees_end_of, counted_ok, counted_length}
use Rattle.der_lists.proofs.scans.scan_tagged.Goals as goal

pub returns-in_err-check_tag : goal.returns-in_err-check_tag
returns-in_err-check_tag c =
    let some : eqb (length c.loop-left.left.rest) 0 ≡ false = cc in
    let p = err_from_is_err_and c.from_residual.result c.from_residual.ensures.1 in
    rw (p.1, p.2) (checked_refuses (λ last. tag_at c.args.tags.now) opaque_item opaque_shorter c.loop-left.count
    [] c.loop-left.left
    c.in_err-check_tag.field-0.0
    (tagged_in c.args.tags.now c.args.list.now) c.loop-left.invariant.octets some c.in_err-check_tag.ensures
    c.loop-left.invariant.agrees)

pub returns-in_err-_item : goal.returns-in_err-_item
returns-in_err-_item c =
    let some : eqb (length c.loop-left.left.rest) 0 ≡ false = cc in
    let p = err_from_is_err_and c.from_residual-in_err-_item.result c.from_residual-in_err-_item.ensures.1 in
    rw (p.1, p.2) (checked_err (λ last. tag_at c.args.tags.now) opaque_item opaque_shorter c.loop-left.count []
    [] c.loop-left.left
    c.in_err-_item.field-0.0
    (tagged_in c.args.tags.now c.args.list.now) c.loop-left.invariant.octets some c.in_ok-check_tag.ensures
    c.in_err-_item.ensures c.loop-left.invariant.agrees)

pub loop-left-smaller : goal.loop-left-smaller
loop-left-smaller c = opaque_shorter.shorter c.loop-left.left
    (c.in_ok-_item._item, c.take.new.list) c.loop-left.invariant.octets c.in_ok-_item.ensures

pub loop-left-preserved : goal.loop-left-preserved
loop-left-preserved c =
    let some : eqb (length c.loop-left.left.rest) 0 ≡ false = cc in
    let shorter = opaque_shorter.shorter c.loop-left.left
    (c.in_ok-_item._item, c.take.new.list) c.loop-left.invariant.octets c.in_ok-_item.ensures in
    record {
      octets = opaque_shorter.fits c.loop-left.left
          (c.in_ok-_item._item, c.take.new.list) c.loop-left.invariant.octets c.in_ok-_item.ensures;
      room = omega (arith, shorter, c.loop-left.invariant.room);
      agrees = checked_next (λ last. tag_at c.args.tags.now) opaque_item opaque_shorter c.loop-left.count []
          [] c.loop-left.left
          (c.in_ok-_item._item, c.take.new.list)
          (tagged_in c.args.tags.now c.args.list.now) c.loop-left.invariant.octets some
          c.in_ok-check_tag.ensures c.in_ok-_item.ensures c.loop-left.invariant.agrees;
    }

pub returns : goal.returns
returns c =
    let none : eqb (length c.loop-left.left.rest) 0 ≡ true = cc in
    let all = tagged_in c.args.tags.now c.args.list.now in
    let counted = agrees_end_of c.loop-left.count all
    (checked_end (λ last. tag_at c.args.tags.now) opaque_item opaque_shorter [] c.loop-left.left none)
    c.loop-left.invariant.agrees in
    let is = checked_list (λ last. tag_at c.args.tags.now) opaque_item opaque_shorter [] c.args.list.now
    (counted_ok c.loop-left.count all counted) in
    ((is.0, counted_length c.loop-left.count all (all_in opaque_item c.args.list.now) counted is.1), is.1)
