use Rattle.std.proofs.Common.{◌≡◌, ◌+◌, ◌*◌, true, take, sym, ◌∙◌, arith, rules}
use Rattle.std.proofs.lemmas.List.{take_rest}
use Rattle.der_core.specs.Lists.{every}
use Rattle.der_core.specs.Times.{is_digit, pair, is_day, is_clock}
use Rattle.der_time.proofs.Texts.{tail_decides}
use Rattle.der_time.proofs.generalized.is_generalized.Goals as goal

pub returns-then-is_clock : goal.returns-then-is_clock
returns-then-is_clock c =
    let b = c.args.body.now in
    let digits : every is_digit (take 14 b) ≡ true = search rules in
    let day : is_day (100 * pair b 0 + pair b 2) (pair b 4) (pair b 6) ≡ true =
    rw (← c.pair.ensures.pair, ← c.pair-2.ensures.pair, ← c.pair-3.ensures.pair, ← c.pair-4.ensures.pair)
    (sym c.is_day.ensures ∙ c.if-not-is_day.false) in
    let clock : is_clock (pair b 8) (pair b 10) (pair b 12) ≡ true =
    rw (← c.pair-5.ensures.pair, ← c.pair-6.ensures.pair, ← c.pair-7.ensures.pair)
    (sym c.is_clock.ensures ∙ c.if-is_clock.true) in
    tail_decides b c.is_tail.result (omega arith) digits day clock (rw (take_rest b 14) at c.is_tail.ensures)
