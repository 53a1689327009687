use Rattle.std.proofs.Common.{◌≡◌, ◌%◌, ◌/◌, arith}
use Rattle.der_time.specs.Spelling.{places}
use Rattle.der_time.proofs.time_text.places_of.Goals as goal

pub returns : goal.returns
unfolding places
returns c =
    let last : c.args.nanos % 100000000 % 10000000 % 1000000 % 100000 % 10000 % 1000 % 100 % 10 / 1
    ≡ c.args.nanos % 100000000 % 10000000 % 1000000
    % 100000 % 10000 % 1000 % 100 % 10 = omega arith in
    rw (
      c.digit.ensures,
      c.digit-2.ensures,
      c.digit-3.ensures,
      c.digit-4.ensures,
      c.digit-5.ensures,
      c.digit-6.ensures,
      c.digit-7.ensures,
      c.digit-8.ensures,
      c.digit-9.ensures,
      last,
    )
