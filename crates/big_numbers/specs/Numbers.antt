-- What the words and the octets of a number stand for, and what a modulus is.
use Rattle.std.specs.Prelude.{◌≡◌, ℕ, ◌+◌, ◌-◌, ◌*◌, ◌/◌, ◌%◌, ◌^◌, ◌<◌, ◌≤◌, zero, suc, List, [], ◌∷◌, length}
use Rattle.std.specs.Prelude.{slice_index}
use Rattle.std.specs.Int.Count.{count_leading_zeros}

-- the number whose digits in base 2 ^ 64 are these words, the lowest first
abbrev pub value : List ℕ → ℕ
value [] = 0
value (x ∷ xs) = x + 2 ^ 64 * value xs

-- OS2IP (RFC 8017 4.2): the number that octets stand for, the highest first
abbrev pub os2ip : List ℕ → ℕ
os2ip [] = 0
os2ip (x ∷ xs) = x * 256 ^ length xs + os2ip xs

-- I2OSP (RFC 8017 4.1): the octets, so many, that stand for x, where x is below 256 ^ len
abbrev pub i2osp : ℕ → ℕ → List ℕ
i2osp x zero = []
i2osp x (suc len) = x / 256 ^ len ∷ i2osp (x % 256 ^ len) len

-- a number has so many bits
abbrev pub IsBits : ℕ → ℕ → Type 0
IsBits n bits = (2 ^ (bits - 1) ≤ n) × (n < 2 ^ bits)

-- how many bits the number of octets has whose first one is not 0
abbrev pub bits_of : List ℕ → ℕ
bits_of octets = 8 * length octets - count_leading_zeros 8 (slice_index octets 0)

-- The octets of a modulus: an odd number above 1, of at most 1,024 octets, of which the first is not 0. So as many
-- octets as these are the length of the modulus in octets, which RFC 8017 writes k.
pub record IsModulus (octets : List ℕ) : Type 0 where
  pub short : length octets ≤ 1024
  pub first : 0 < slice_index octets 0
  pub odd : os2ip octets % 2 ≡ 1
  pub large : 1 < os2ip octets
