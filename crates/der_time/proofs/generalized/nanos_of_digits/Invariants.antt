use Rattle.std.proofs.Common.{◌≡◌, ◌+◌, ◌-◌, ◌*◌, ◌^◌, ◌≤◌, drop}
use Rattle.der_time.specs.Moments.{in_places}
use Rattle.der_time.proofs.generalized.nanos_of_digits.Given as goal

-- the digits so far, followed by the others, make the number
abbrev pub invariant-loop-place : goal.invariant-loop-place
invariant-loop-place l = record {
  value : l.nanos * 10 ^ (9 - l.place) + in_places (9 - l.place) (drop l.place l.digits) ≡ in_places 9 l.digits;
  small : l.nanos + 23 ≤ 23 * 10 ^ l.place;
}
