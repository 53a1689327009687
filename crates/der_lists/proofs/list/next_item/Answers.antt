use Rattle.std.proofs.Common.{◌≡◌, length, eqb, true, false}
use Rattle.der_lists.proofs.Items.{no_items, no_item_faulty, first_item, end_faulty}
use Rattle.der_lists.proofs.list.next_item.Goals as goal

pub returns-then-is_empty-clause-front : goal.returns-then-is_empty-clause-front
returns-then-is_empty-clause-front g c =
    let none : eqb (length c.args.list.now.rest) 0 ≡ true = cc in
    end_faulty g.I.Item.reading g.I.Item.shorter c.args.list.now c.rest-rest.ensures.octets none

pub returns-then-is_empty-clause-values : goal.returns-then-is_empty-clause-values
returns-then-is_empty-clause-values g c = λ _.
    let none : eqb (length c.args.list.now.rest) 0 ≡ true = cc in
    no_items g.I.Item.reading g.I.Item.shorter c.args.list.now none

pub returns-in_default-clause-values : goal.returns-in_default-clause-values
returns-in_default-clause-values g c = λ is_list.
    let some : eqb (length c.args.list.now.rest) 0 ≡ false = cc in
    absurd (no_item_faulty g.I.Item.reading g.I.Item.shorter c.args.list.now c.in_default.field-0
    c.rest-rest.ensures.octets some
    (rw (← c.again-ahead.ensures) c.in_default.ensures) is_list)

pub returns-clause-values : goal.returns-clause-values
returns-clause-values g c = λ is_list.
    let some : eqb (length c.args.list.now.rest) 0 ≡ false = cc in
    (first_item g.I.Item.reading g.I.Item.shorter c.args.list.now
    (c.in-Ok.first, c.take.new.list) c.rest-rest.ensures.octets some
    (rw (← c.again-ahead.ensures) c.in-Ok.ensures) is_list).1

pub returns-clause-list : goal.returns-clause-list
returns-clause-list g c = λ is_list.
    let some : eqb (length c.args.list.now.rest) 0 ≡ false = cc in
    (first_item g.I.Item.reading g.I.Item.shorter c.args.list.now
    (c.in-Ok.first, c.take.new.list) c.rest-rest.ensures.octets some
    (rw (← c.again-ahead.ensures) c.in-Ok.ensures) is_list).0
