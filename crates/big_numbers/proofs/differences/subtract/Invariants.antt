use Rattle.std.proofs.Common.{◌≡◌, ℕ, ◌+◌, ◌*◌, ◌^◌, ◌≤◌, get_or, take}
use Rattle.std.specs.Int.{from_bool}
use Rattle.big_numbers.specs.Numbers.{value}
use Rattle.big_numbers.proofs.differences.subtract.Given as goal

abbrev pub invariant-words : goal.invariant-words
invariant-words l = record {
  difference : value (take l.i l.t) + value (take l.i l.n)
      ≡ value (take l.i l.fn.t) + (2 ^ 64) ^ l.i * from_bool l.borrow;
  rest : (k : ℕ) → l.i ≤ k → get_or l.t k 0 ≡ get_or l.fn.t k 0;
}
