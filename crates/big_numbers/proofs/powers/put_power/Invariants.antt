use Rattle.std.proofs.Common.{◌≡◌, ◌/◌, ◌^◌, ◌<◌, ◌≤◌, length}
use Rattle.big_numbers.specs.Numbers.{value}
use Rattle.big_numbers.specs.Montgomery.{form}
use Rattle.big_numbers.proofs.powers.put_power.Given as goal

abbrev pub invariant-bits : goal.invariant-bits
invariant-bits l = record {
  length : length l.base ≡ length l.n;
  bits : l.i ≤ 63;
  below : value l.x < value l.n;
  form : value l.x ≡ form l.n (value l.s ^ (l.e / 2 ^ l.i));
}

abbrev pub decreases-bits : goal.decreases-bits
decreases-bits l = l.i
