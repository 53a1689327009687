-- Which bits of a BIT STRING are set (X.690, 8.6.2).
use Rattle.std.specs.Prelude.{ℕ, ◌+◌, ◌-◌, ◌/◌, ◌%◌, ◌^◌, Bool, List, get_or, ◌==◌}

-- Bit n is a bit of octet n / 8 after the count of unused bits; bit 0 is the first, the high bit of that octet. No bit
-- after the last octet is set.
abbrev pub has_bit : ℕ → List ℕ → Bool
has_bit n contents = get_or contents (1 + n / 8) 0 / 2 ^ (7 - n % 8) % 2 == 1
