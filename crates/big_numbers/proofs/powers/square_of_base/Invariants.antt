use Rattle.std.proofs.Common.{◌≡◌, ◌*◌, ◌^◌, ◌<◌, length}
use Rattle.big_numbers.specs.Numbers.{value}
use Rattle.big_numbers.specs.Montgomery.{form}
use Rattle.big_numbers.proofs.powers.square_of_base.Given as goal

abbrev pub invariant-squares : goal.invariant-squares
invariant-squares l = record {
  below : value l.x < value l.n;
  form : value l.x ≡ form l.n (2 ^ (length l.n * 2 ^ l._done));
}
