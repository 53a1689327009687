use Rattle.std.proofs.Common.{◌≡◌, [], length, eqb, true, false, arith}
use Rattle.std.proofs.lemmas.Result.{err_from_is_err_and}
use Rattle.der_core.specs.declared.fault.Kind.TheVariants.{Order}
use Rattle.der_core.specs.Lists.{is_less}
use Rattle.der_core.specs.Reading.{fault}
use Rattle.der_lists.specs.Checked.{rank_at, ordered_in}
use Rattle.der_lists.specs.Items.{all_in}
use Rattle.der_lists.proofs.CheckedSteps.{checked_next, checked_refuses, checked_err, checked_end, checked_list}
use Rattle.der_lists.proofs.CheckedSteps.{rank_err, rank_less, rank_ok}
use Rattle.der_lists.proofs.Items.{agrees_end_of, counted_ok, counted_length}
use Rattle.der_lists.proofs.scans.scan_ordered.Goals as goal

pub returns-in_err-element : goal.returns-in_err-element
returns-in_err-element g c =
    let some : eqb (length c.loop-last.left.rest) 0 ≡ false = cc in
    let p = err_from_is_err_and c.from_residual.result c.from_residual.ensures.1 in
    rw (p.1, p.2) (checked_refuses
    (rank_at g.I.RankedItem.front) g.I.Item.reading g.I.Item.shorter c.loop-last.count c.loop-last.last.now
    c.loop-last.left c.in_err-element.field-0.0 (ordered_in g.I.RankedItem.front g.I.Item.reading c.args.list.now)
    c.loop-last.invariant.octets some
    (rank_err g.I.RankedItem.front c.loop-last.last.now c.loop-last.left c.in_err-element.field-0.0
    c.in_err-element.ensures) c.loop-last.invariant.agrees)

pub returns-then-is_less : goal.returns-then-is_less
returns-then-is_less g c =
    let some : eqb (length c.loop-last.left.rest) 0 ≡ false = cc in
    let less : is_less c.in_ok-element.element.now c.loop-last.last.now ≡ true = cc in
    let e = checked_refuses (rank_at g.I.RankedItem.front) g.I.Item.reading g.I.Item.shorter c.loop-last.count
    c.loop-last.last.now c.loop-last.left
    (fault Order c.loop-last.left.pos)
    (ordered_in g.I.RankedItem.front g.I.Item.reading c.args.list.now) c.loop-last.invariant.octets some
    (rank_less g.I.RankedItem.front c.loop-last.last.now c.in_ok-element.element.now c.loop-last.left
    c.in_ok-element.ensures less)
    c.loop-last.invariant.agrees in
    rw (c.new.ensures, c.position.ensures) e

pub returns-in_err-_item : goal.returns-in_err-_item
returns-in_err-_item g c =
    let some : eqb (length c.loop-last.left.rest) 0 ≡ false = cc in
    let more : is_less c.in_ok-element.element.now c.loop-last.last.now ≡ false = cc in
    let p = err_from_is_err_and c.from_residual-in_err-_item.result c.from_residual-in_err-_item.ensures.1 in
    rw (p.1, p.2) (checked_err
    (rank_at g.I.RankedItem.front) g.I.Item.reading g.I.Item.shorter c.loop-last.count c.loop-last.last.now
    c.in_ok-element.element.now c.loop-last.left c.in_err-_item.field-0.0
    (ordered_in g.I.RankedItem.front g.I.Item.reading c.args.list.now)
    c.loop-last.invariant.octets some
    (rank_ok g.I.RankedItem.front c.loop-last.last.now c.in_ok-element.element.now c.loop-last.left
    c.in_ok-element.ensures more)
    c.in_err-_item.ensures c.loop-last.invariant.agrees)

pub loop-last-smaller : goal.loop-last-smaller
loop-last-smaller g c = g.I.Item.shorter.shorter c.loop-last.left
    (c.in_ok-_item._item, c.take.new.list) c.loop-last.invariant.octets c.in_ok-_item.ensures

pub loop-last-preserved : goal.loop-last-preserved
loop-last-preserved g c =
    let some : eqb (length c.loop-last.left.rest) 0 ≡ false = cc in
    let more : is_less c.in_ok-element.element.now c.loop-last.last.now ≡ false = cc in
    let shorter = g.I.Item.shorter.shorter c.loop-last.left
    (c.in_ok-_item._item, c.take.new.list) c.loop-last.invariant.octets c.in_ok-_item.ensures in
    record {
      octets = g.I.Item.shorter.fits c.loop-last.left
          (c.in_ok-_item._item, c.take.new.list) c.loop-last.invariant.octets c.in_ok-_item.ensures;
      room = omega (arith, shorter, c.loop-last.invariant.room);
      agrees = checked_next (rank_at g.I.RankedItem.front) g.I.Item.reading g.I.Item.shorter c.loop-last.count
          c.loop-last.last.now c.in_ok-element.element.now c.loop-last.left (c.in_ok-_item._item, c.take.new.list)
          (ordered_in g.I.RankedItem.front g.I.Item.reading c.args.list.now) c.loop-last.invariant.octets some
          (rank_ok g.I.RankedItem.front c.loop-last.last.now c.in_ok-element.element.now c.loop-last.left
          c.in_ok-element.ensures more)
          c.in_ok-_item.ensures c.loop-last.invariant.agrees;
    }

pub returns : goal.returns
returns g c =
    let none : eqb (length c.loop-last.left.rest) 0 ≡ true = cc in
    let all = ordered_in g.I.RankedItem.front g.I.Item.reading c.args.list.now in
    let counted = agrees_end_of c.loop-last.count all
    (checked_end (rank_at g.I.RankedItem.front) g.I.Item.reading g.I.Item.shorter
    c.loop-last.last.now c.loop-last.left none) c.loop-last.invariant.agrees in
    let is = checked_list (rank_at g.I.RankedItem.front) g.I.Item.reading g.I.Item.shorter [] c.args.list.now
    (counted_ok c.loop-last.count all counted) in
    ((is.0, counted_length c.loop-last.count all (all_in g.I.Item.reading c.args.list.now) counted is.1), is.1)
