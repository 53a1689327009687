-- How far a row of a product by Montgomery has come.
use Rattle.std.specs.Prelude.{◌≡◌, ℕ, ◌+◌, ◌*◌, ◌^◌, ◌≤◌, List, take, slice_index}
use Rattle.big_numbers.specs.Numbers.{value}

-- The number u, a word times b, and m times n are added up as far as j words behind the lowest one, which is 0 and was
-- dropped: the sum of these is in t, with two carries; behind them t is still u.
pub record IsRow (u b n : List ℕ) (word m : ℕ) (t : List ℕ) (j c d : ℕ) : Type 0 where
  pub sum : 2 ^ 64 * value (take j t) + (2 ^ 64) ^ j * 2 ^ 64 * (c + d)
      ≡ value (take (j + 1) u) + word * value (take (j + 1) b) + m * value (take (j + 1) n)
  pub rest : (k : ℕ) → j ≤ k → slice_index t k ≡ slice_index u k
