use Rattle.std.proofs.Common.{◌≡◌, ◌∙◌, ap, arith}
use Rattle.jiff_core.specs.Date.{epoch_day}
use Rattle.jiff_core.proofs.SignedLemmas.{signed_casts}
use Rattle.der_time.proofs.Civil.{day_below, made_number}
use Rattle.der_time.proofs.calendar.day_number.Goals as goal

pub overflow_cast-result : goal.overflow_cast-result
overflow_cast-result c =
    let is = made_number c.args.year c.args.month c.args.day c.date-date.result c.requires.year c.requires.day
    c.date-date.ensures.0
    c.date-date.ensures.1 c.date-date.ensures.2 in
    let same : c.to_unix_epoch_day.result ≡ epoch_day c.date-date.result = c.to_unix_epoch_day.ensures.value
    ∙ ap epoch_day c.to_plain.ensures in
    omega (arith, signed_casts, is, same, day_below c.args.year c.args.month c.args.day c.requires.year c.requires.day)

pub returns : goal.returns
returns c =
    let is = made_number c.args.year c.args.month c.args.day c.date-date.result c.requires.year c.requires.day
    c.date-date.ensures.0
    c.date-date.ensures.1 c.date-date.ensures.2 in
    let same : c.to_unix_epoch_day.result ≡ epoch_day c.date-date.result = c.to_unix_epoch_day.ensures.value
    ∙ ap epoch_day c.to_plain.ensures in
    omega (arith, signed_casts, is, same, day_below c.args.year c.args.month c.args.day c.requires.year c.requires.day)
