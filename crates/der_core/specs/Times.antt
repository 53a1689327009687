-- Which octets are contents of the two times (X.690, 11.7 and 11.8; RFC 3161, 2.4.2; RFC 5280, 4.1.2.5).
use Rattle.std.specs.Prelude.{ℕ, ◌+◌, ◌-◌, ◌*◌, ◌%◌, Bool, not, ◌&&◌, ◌||◌, List, [], ◌∷◌, length, take, drop, nat_le}
use Rattle.std.specs.Prelude.{◌==◌, if◌then◌else◌, slice_index}
use Rattle.der_core.specs.Lists.{every, is_same}

abbrev pub is_digit : ℕ → Bool
is_digit b = nat_le 48 b && nat_le b 57

-- the number that the two digits at i and after it make
abbrev pub pair : List ℕ → ℕ → ℕ
pair b i = 10 * (slice_index b i - 48) + (slice_index b (i + 1) - 48)

-- the Gregorian calendar
abbrev pub is_leap : ℕ → Bool
is_leap year = year % 4 == 0 && (not (year % 100 == 0) || year % 400 == 0)

abbrev pub days_of : (year month : ℕ) → ℕ
days_of year month =
    if month == 2 then (if is_leap year then 29 else 28)
    else if month == 4 || (month == 6 || (month == 9 || month == 11)) then 30
    else 31

abbrev pub is_day : (year month day : ℕ) → Bool
is_day year month day = (nat_le 1 month && nat_le month 12) && (nat_le 1 day && nat_le day (days_of year month))

abbrev pub is_clock : (hour minute second : ℕ) → Bool
is_clock hour minute second = nat_le hour 23 && (nat_le minute 59 && nat_le second 59)

-- two digits of a year: 50 to 99 are of the twentieth century, 00 to 49 of the next
abbrev pub full_year : ℕ → ℕ
full_year year = if nat_le 50 year then 1900 + year else 2000 + year

-- YYMMDDHHMMSSZ
abbrev pub is_utc : List ℕ → Bool
is_utc b = length b == 13 && (every is_digit (take 12 b) && (slice_index b 12 == 90
    && (is_day (full_year (pair b 0)) (pair b 2) (pair b 4) && is_clock (pair b 6) (pair b 8) (pair b 10))))

-- a point, 1 to 9 digits of which the last isn't 0, and Z
abbrev pub is_fraction : List ℕ → Bool
is_fraction b = (nat_le 3 (length b) && nat_le (length b) 11) && (slice_index b 0 == 46
    && (every is_digit (take (length b - 2) (drop 1 b))
    && (not (slice_index b (length b - 2) == 48) && slice_index b (length b - 1) == 90)))

-- YYYYMMDDHHMMSSZ or YYYYMMDDHHMMSS.fZ
abbrev pub is_generalized : List ℕ → Bool
is_generalized b = nat_le 15 (length b) && (every is_digit (take 14 b)
    && (is_day (100 * pair b 0 + pair b 2) (pair b 4) (pair b 6) && (is_clock (pair b 8) (pair b 10) (pair b 12)
    && (is_same (drop 14 b) (90 ∷ []) || is_fraction (drop 14 b)))))
