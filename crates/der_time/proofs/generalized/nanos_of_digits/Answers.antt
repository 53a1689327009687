use Rattle.std.proofs.Common.{sym, ◌∙◌, arith}
use Rattle.der_time.proofs.Places.{place_step, place_last, place_small}
use Rattle.der_time.proofs.generalized.nanos_of_digits.Goals as goal

pub loop-place-preserved : goal.loop-place-preserved
loop-place-preserved c =
    record {
      value = sym (place_step c.loop-place.nanos c.loop-place.place c.digit_at.result c.args.digits.now
          (omega arith) c.digit_at.ensures.digit)
          ∙ c.loop-place.invariant.value;
      small = place_small c.loop-place.nanos c.loop-place.place c.digit_at.result c.digit_at.ensures.low
          c.loop-place.invariant.small;
    }

pub returns : goal.returns
returns c = sym (place_last c.loop-place.nanos c.loop-place.place c.args.digits.now (omega arith))
    ∙ c.loop-place.invariant.value
