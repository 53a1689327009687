-- Length octets by the octets of a number.
use Rattle.std.proofs.Common.{◌≡◌, ℕ, ◌/◌, ◌%◌, ◌<◌, ◌≤◌, [], ◌∷◌, arith}
use Rattle.der_core.specs.Element.{len}
use Rattle.der_core.proofs.Lengths.{len_0, len_1, len_2, len_3, len_4}

pub octets_0 : (n : ℕ) → n < 128 → len n ≡ n % 256 ∷ []
octets_0 n h = let e : n % 256 ≡ n = omega arith in rw e (len_0 n h)

pub octets_1 : (n : ℕ) → 128 ≤ n → n < 256 → len n ≡ 129 ∷ n % 256 ∷ []
octets_1 n lo hi = let e : n % 256 ≡ n = omega arith in rw e (len_1 n lo hi)

pub octets_2 : (n : ℕ) → 256 ≤ n → n < 65536 → len n ≡ 130 ∷ n / 256 % 256 ∷ n % 256 ∷ []
octets_2 n lo hi = let e : n / 256 % 256 ≡ n / 256 = omega arith in rw e (len_2 n lo hi)

pub octets_3 : (n : ℕ) → 65536 ≤ n → n < 16777216 → len n ≡ 131 ∷ n / 65536 % 256 ∷ n / 256 % 256 ∷ n % 256 ∷ []
octets_3 n lo hi = let e : n / 65536 % 256 ≡ n / 65536 = omega arith in rw e (len_3 n lo hi)

pub octets_4 : (n : ℕ) → 16777216 ≤ n → n < 4294967296
    → len n ≡ 132 ∷ n / 16777216 % 256 ∷ n / 65536 % 256 ∷ n / 256 % 256 ∷ n % 256 ∷ []
octets_4 n lo hi = let e : n / 16777216 % 256 ≡ n / 16777216 = omega arith in rw e (len_4 n lo hi)

-- what length octets are, by the number of them
pub ruleset length_octets = (octets_0, octets_1, octets_2, octets_3, octets_4)
