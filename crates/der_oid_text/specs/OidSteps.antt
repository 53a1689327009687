-- The parts of the text of an OBJECT IDENTIFIER, and the octets of a subidentifier, as the steps of the code read and
-- write them.
use Rattle.std.specs.Prelude.{ℕ, ◌+◌, ◌/◌, ◌%◌, Bool, false, ◌&&◌, List, [], ◌∷◌, ◌++◌, map, nat_le, ◌==◌}
use Rattle.std.specs.Int.Digits.{digits_of}

abbrev pub is_point : ℕ → Bool
is_point b = b == 46

-- a digit, or a digit other than 0 and something after it
abbrev pub is_decimal : List ℕ → Bool
is_decimal [] = false
is_decimal (b ∷ []) = nat_le 48 b && nat_le b 57
is_decimal (b ∷ c ∷ bs) = nat_le 49 b && nat_le b 57

-- the digits of a number in base 128, each with the high bit set
unfoldable pub high_octets : ℕ → List ℕ
high_octets n = map (λ d. 128 + d) (digits_of 128 n)

-- the octets of a subidentifier, as few as hold it (X.690 8.19.2)
unfoldable pub base_128 : ℕ → List ℕ
base_128 n = high_octets (n / 128) ++ (n % 128) ∷ []
