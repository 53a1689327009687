use Rattle.std.proofs.Common.{◌∙◌, arith}
use Rattle.jiff_core.proofs.SignedLemmas.{signed_arith}
use Rattle.jiff.proofs.SpanFacts.{date_add-days, can_add-days}
use Rattle.der_time.proofs.Civil.{days_on, days_within, year_is, parts_number}
use Rattle.der_time.proofs.date.date_of.Goals as goal

pub unreachable-requires : goal.unreachable-requires
unreachable-requires c =
    let can = can_add-days c.date-first.result _ c.days.result c.days.ensures in
    let ok = c.checked_add.ensures.succeeds.1
    (can.1 (days_within c.date-first.result c.args.days c.date-first.ensures c.requires)) in
    let none = rw c.in_default.is at ok in
    cc

pub overflow_cast-result : goal.overflow_cast-result
overflow_cast-result c =
    let on = days_on c.date-first.result c.in-Ok.date c.args.days c.date-first.ensures c.requires
    (c.in-Ok.ensures.value ∙ date_add-days c.date-first.result _ c.days.result c.days.ensures) in
    omega (arith, signed_arith, c.year.ensures, year_is c.in-Ok.date c.args.days on)

pub returns-clause-number : goal.returns-clause-number
returns-clause-number c =
    let on = days_on c.date-first.result c.in-Ok.date c.args.days c.date-first.ensures c.requires
    (c.in-Ok.ensures.value ∙ date_add-days c.date-first.result _ c.days.result c.days.ensures) in
    parts_number c.in-Ok.date c.args.days c.year.result c.month.result c.day.result c.year.ensures c.month.ensures
    c.day.ensures on
