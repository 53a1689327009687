use Rattle.std.proofs.Common.{◌≡◌, ◌+◌, ◌*◌, true, sym, ap, ◌∙◌}
use Rattle.der_core.specs.Times.{is_generalized}
use Rattle.der_time.specs.Moments.{generalized_moment, fraction_digits, in_places}
use Rattle.der_time.proofs.Civil.{day_below}
use Rattle.der_time.proofs.Moments.{made_of}
use Rattle.der_time.proofs.Places.{in_places_below}
use Rattle.der_time.proofs.Texts.{generalized_parts, generalized_read, year_below, fraction_of_digits}
use Rattle.der_time.proofs.generalized.read_generalized.Goals as goal

pub day_number-days-requires-clause-year : goal.day_number-days-requires-clause-year
day_number-days-requires-clause-year c =
    let text : is_generalized c.args.body.now ≡ true = sym c.is_generalized.ensures ∙ c.if-not-is_generalized.false in
    rw (c.pair.ensures.pair, c.pair-2.ensures.pair)
    (year_below c.args.body.now (generalized_parts c.args.body.now text))

pub day_number-days-requires-clause-day : goal.day_number-days-requires-clause-day
day_number-days-requires-clause-day c =
    let text : is_generalized c.args.body.now ≡ true = sym c.is_generalized.ensures ∙ c.if-not-is_generalized.false in
    rw (c.pair.ensures.pair, c.pair-2.ensures.pair, c.pair-3.ensures.pair, c.pair-4.ensures.pair)
    (generalized_parts c.args.body.now text).day

pub at-requires-clause-days : goal.at-requires-clause-days
at-requires-clause-days c =
    let text : is_generalized c.args.body.now ≡ true = sym c.is_generalized.ensures ∙ c.if-not-is_generalized.false in
    let parts = generalized_parts c.args.body.now text in
    rw (
      c.day_number-days.ensures,
      c.pair.ensures.pair,
      c.pair-2.ensures.pair,
      c.pair-3.ensures.pair,
      c.pair-4.ensures.pair,
    )
    (day_below _ _ _ (year_below c.args.body.now parts) parts.day)

pub at-requires-clause-clock : goal.at-requires-clause-clock
at-requires-clause-clock c =
    let text : is_generalized c.args.body.now ≡ true = sym c.is_generalized.ensures ∙ c.if-not-is_generalized.false in
    rw (c.pair-5.ensures.pair, c.pair-6.ensures.pair, c.pair-7.ensures.pair)
    (generalized_parts c.args.body.now text).clock

pub at-requires-clause-nanos : goal.at-requires-clause-nanos
at-requires-clause-nanos c =
    let text : is_generalized c.args.body.now ≡ true = sym c.is_generalized.ensures ∙ c.if-not-is_generalized.false in
    rw (c.nanos_of_digits-nanos.ensures, c.fraction_digits.ensures)
    (in_places_below 9 (fraction_digits c.args.body.now)
    (fraction_of_digits c.args.body.now (generalized_parts c.args.body.now text)))

pub returns-clause-found : goal.returns-clause-found
unfolding generalized_moment
returns-clause-found c = (
  sym c.is_generalized.ensures ∙ c.if-not-is_generalized.false,
  made_of c.at.ensures c.day_number-days.ensures (λ i. 100 * c.pair.ensures.pair i + c.pair-2.ensures.pair i)
      c.pair-3.ensures.pair c.pair-4.ensures.pair c.pair-5.ensures.pair c.pair-6.ensures.pair c.pair-7.ensures.pair
      (c.nanos_of_digits-nanos.ensures ∙ ap (in_places 9) c.fraction_digits.ensures),
)

pub returns-clause-exact : goal.returns-clause-exact
returns-clause-exact c =
    let found = returns-clause-found c in
    generalized_read _ _ _ found.0 found.1
