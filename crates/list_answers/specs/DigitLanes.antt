-- Hexadecimal digits in lanes of vectors.
use Rattle.std.specs.Prelude.{◌≡◌, ℕ, ◌+◌, ◌*◌, ◌%◌, ◌<◌, List, length, map, slice_index, Some, unwrap_or, min}
use Rattle.std.specs.List.{range_with_len}
use Rattle.hex.specs.Hex.{hex_digit_value}

-- the value of a digit, or 255 if it isn't one
abbrev pub value_or_255 : ℕ → ℕ
value_or_255 digit = unwrap_or (hex_digit_value digit) 255

-- the octets of sixteen pairs of values
abbrev pub octets_of : List ℕ → List ℕ
octets_of values = map (λ k. (slice_index values (2 * k) * 16 % 256 + slice_index values (2 * k + 1)) % 256)
    (range_with_len 0 16)

-- sixteen values, each below 16
abbrev pub AreBelow16 : (values : List ℕ) → Type 0
AreBelow16 values = (k : ℕ) → k < 16 → slice_index values k < 16

-- each of these sixteen octets is a digit of this value, or its value is 16 or more and it isn't a digit
abbrev pub AreValues : (octets values : List ℕ) → Type 0
AreValues octets values = (k : ℕ) → k < 16
    → min (slice_index values k) 16 ≡ min (value_or_255 (slice_index octets k)) 16

-- two digits stand at this place, and state this octet
abbrev pub IsPair : (text : List ℕ) → (place octet : ℕ) → Type 0
IsPair text place octet = (high : ℕ) × ((low : ℕ) × (hex_digit_value (slice_index text place) ≡ Some high)
    × (hex_digit_value (slice_index text (place + 1)) ≡ Some low) × (octet ≡ high * 16 + low))

-- sixteen octets are those of the pairs of digits from this place on
pub record ArePairs (text : List ℕ) (place : ℕ) (octets : List ℕ) : Type 0 where
  pub each : (k : ℕ) → k < 16 → IsPair text (place + 2 * k) (slice_index octets k)
  pub all : length octets ≡ 16
