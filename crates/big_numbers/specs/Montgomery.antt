-- What is kept of a modulus, for products by Montgomery (P. L. Montgomery, Modular multiplication without trial
-- division, 1985).
use Rattle.std.specs.Prelude.{◌≡◌, ℕ, ◌+◌, ◌*◌, ◌%◌, ◌^◌, ◌<◌, ◌≤◌, List, length, take, slice_index}
use Rattle.big_numbers.specs.Numbers.{IsModulus, bits_of, i2osp, value}

-- the number that stands for y in products by Montgomery modulo n: y times the power of the base, of which n has so
-- many words
abbrev pub form : List ℕ → ℕ → ℕ
form n y = (y * (2 ^ 64) ^ length n) % value n

-- the words of a modulus n, with the number that stands for the power of the base, and the word that the lowest word of
-- n multiplies to -1
pub record IsReady (n square : List ℕ) (inverse : ℕ) : Type 0 where
  pub few : length n ≤ 128
  pub as_long : length square ≡ length n
  pub odd : value n % 2 ≡ 1
  pub large : 1 < value n
  pub is_inverse : (slice_index n 0 * inverse + 1) % 2 ^ 64 ≡ 0
  pub is_square : value square ≡ form n ((2 ^ 64) ^ length n)

-- the fields of a modulus: of the words as many count as its octets fill
pub record IsPrepared (words square : List ℕ) (count inverse size bits : ℕ) : Type 0 where
  pub room : length words ≡ 128
  pub square_room : length square ≡ 128
  pub most : count ≤ 128
  pub enough : size ≤ 8 * count
  pub fits : value (take count words) < 256 ^ size
  pub ready : IsReady (take count words) (take count square) inverse
  pub modulus : IsModulus (i2osp (value (take count words)) size)
  pub are_bits : bits ≡ bits_of (i2osp (value (take count words)) size)
