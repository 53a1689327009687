use Rattle.std.proofs.Common.{◌≡◌, length, eqb, true, false, arith}
use Rattle.std.proofs.lemmas.Result.{err_from_is_err_and}
use Rattle.der_core.specs.Reading.{many_in}
use Rattle.der_lists.specs.Items.{all_in}
use Rattle.der_lists.proofs.Items.{agrees_next, agrees_err, agrees_end, ok_items, counted_ok, counted_length}
use Rattle.der_lists.proofs.scans.scan_items.Goals as goal

pub returns-in_err-_item : goal.returns-in_err-_item
returns-in_err-_item g c =
    let some : eqb (length c.loop-left.left.rest) 0 ≡ false = cc in
    let p = err_from_is_err_and c.from_residual.result c.from_residual.ensures.1 in
    rw (p.1, p.2)
    (agrees_err g.I.Item.reading g.I.Item.shorter c.loop-left.count c.loop-left.left c.in_err-_item.field-0.0
    (many_in g.I.Item.reading c.args.list.now) c.loop-left.invariant.octets some c.in_err-_item.ensures
    c.loop-left.invariant.agrees)

pub loop-left-smaller : goal.loop-left-smaller
loop-left-smaller g c = g.I.Item.shorter.shorter c.loop-left.left
    (c.in_ok-_item._item, c.take.new.list) c.loop-left.invariant.octets c.in_ok-_item.ensures

pub loop-left-preserved : goal.loop-left-preserved
loop-left-preserved g c =
    let some : eqb (length c.loop-left.left.rest) 0 ≡ false = cc in
    let shorter = g.I.Item.shorter.shorter c.loop-left.left
    (c.in_ok-_item._item, c.take.new.list) c.loop-left.invariant.octets c.in_ok-_item.ensures in
    record {
      octets = g.I.Item.shorter.fits c.loop-left.left
          (c.in_ok-_item._item, c.take.new.list) c.loop-left.invariant.octets c.in_ok-_item.ensures;
      room = omega (arith, shorter, c.loop-left.invariant.room);
      agrees = agrees_next g.I.Item.reading g.I.Item.shorter c.loop-left.count c.loop-left.left
          (c.in_ok-_item._item, c.take.new.list)
          (many_in g.I.Item.reading c.args.list.now) c.loop-left.invariant.octets some c.in_ok-_item.ensures
          c.loop-left.invariant.agrees;
    }

pub returns : goal.returns
returns g c =
    let none : eqb (length c.loop-left.left.rest) 0 ≡ true = cc in
    let all = many_in g.I.Item.reading c.args.list.now in
    let counted = agrees_end g.I.Item.reading g.I.Item.shorter c.loop-left.count c.loop-left.left all none
    c.loop-left.invariant.agrees in
    let ok = counted_ok c.loop-left.count all counted in
    let is = ok_items all ok in
    ((ok, counted_length c.loop-left.count all (all_in g.I.Item.reading c.args.list.now) counted is), is)
