use Rattle.std.proofs.Common.{◌≡◌, ◌^◌, ◌<◌, length, take}
use Rattle.big_numbers.specs.Numbers.{os2ip, value}
use Rattle.big_numbers.specs.Montgomery.{form}
use Rattle.big_numbers.proofs.powers.put_long_power.Given as goal

abbrev pub invariant-octets : goal.invariant-octets
invariant-octets l = record {
  length : length l.base ≡ length l.n;
  below : value l.x < value l.n;
  form : value l.x ≡ form l.n (value l.s ^ os2ip (take l.i l.exponent));
}
