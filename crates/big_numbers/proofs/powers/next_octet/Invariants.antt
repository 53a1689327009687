use Rattle.std.proofs.Common.{◌≡◌, ℕ, ◌+◌, ◌-◌, ◌*◌, ◌/◌, ◌^◌, ◌<◌}
use Rattle.big_numbers.specs.Numbers.{value}
use Rattle.big_numbers.specs.Montgomery.{form}
use Rattle.big_numbers.proofs.powers.next_octet.Given as goal

abbrev pub invariant-bits : goal.invariant-bits
invariant-bits l = record {
  below : value l.x < value l.n;
  form : (s k : ℕ) → value l.base ≡ form l.n s → value l.fn.x ≡ form l.n (s ^ k)
      → value l.x ≡ form l.n (s ^ (k * 2 ^ l.i + l.octet / 2 ^ (8 - l.i)));
}
