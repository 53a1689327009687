use Rattle.std.proofs.Common.{◌≡◌, true, refl, sym, ap, ◌∙◌, arith, rules}
use Rattle.der_core.specs.Times.{is_utc, full_year}
use Rattle.der_time.specs.Moments.{utc_moment}
use Rattle.der_time.proofs.Civil.{day_below}
use Rattle.der_time.proofs.Moments.{made_of}
use Rattle.der_time.proofs.Texts.{utc_parts, utc_read}
use Rattle.der_time.proofs.utc.read_utc.Goals as goal

pub day_number-days-requires-clause-day : goal.day_number-days-requires-clause-day
day_number-days-requires-clause-day c =
    let text : is_utc c.args.body.now ≡ true = sym c.is_utc.ensures ∙ c.if-not-is_utc.false in
    rw (c.full_year.ensures, c.pair.ensures.pair, c.pair-2.ensures.pair, c.pair-3.ensures.pair)
    (utc_parts c.args.body.now text).day

pub at-requires-clause-days : goal.at-requires-clause-days
at-requires-clause-days c =
    let text : is_utc c.args.body.now ≡ true = sym c.is_utc.ensures ∙ c.if-not-is_utc.false in
    rw (c.day_number-days.ensures) (day_below c.full_year.result c.pair-2.result c.pair-3.result (search rules)
    (rw (c.full_year.ensures, c.pair.ensures.pair, c.pair-2.ensures.pair, c.pair-3.ensures.pair)
    (utc_parts c.args.body.now text).day))

pub at-requires-clause-clock : goal.at-requires-clause-clock
at-requires-clause-clock c =
    let text : is_utc c.args.body.now ≡ true = sym c.is_utc.ensures ∙ c.if-not-is_utc.false in
    rw (c.pair-4.ensures.pair, c.pair-5.ensures.pair, c.pair-6.ensures.pair) (utc_parts c.args.body.now text).clock

pub returns-clause-found : goal.returns-clause-found
unfolding utc_moment
returns-clause-found c = (
  sym c.is_utc.ensures ∙ c.if-not-is_utc.false,
  made_of c.at.ensures c.day_number-days.ensures (c.full_year.ensures ∙ ap full_year c.pair.ensures.pair)
      c.pair-2.ensures.pair c.pair-3.ensures.pair c.pair-4.ensures.pair c.pair-5.ensures.pair c.pair-6.ensures.pair refl
      ∙ omega arith,
)

pub returns-clause-exact : goal.returns-clause-exact
returns-clause-exact c =
    let found = returns-clause-found c in
    utc_read _ _ _ found.0 found.1
