-- Which moment the text of a time denotes: how many nanoseconds it is after 0000-01-01 00:00:00, in UTC.
use Rattle.std.specs.Prelude.{◌≡◌, ℕ, zero, suc, ◌+◌, ◌-◌, ◌*◌, ◌^◌, true, List, [], ◌∷◌, length, take, drop, Result}
use Rattle.std.specs.Prelude.{Ok, Err, if◌then◌else◌}
use Rattle.der_core.specs.declared.fault.Fault.{Fault}
use Rattle.der_core.specs.declared.fault.Kind.TheVariants.{Time}
use Rattle.der_core.specs.Reading.{Spot, fault}
use Rattle.der_core.specs.Times.{pair, full_year, is_utc, is_generalized}
use Rattle.der_time.specs.Calendar.{day_number}

-- the nanoseconds of this many days, hours, minutes and seconds, each day of 86400 seconds
abbrev pub nanos_of : (days hours minutes seconds : ℕ) → ℕ
nanos_of days hours minutes seconds = 10 ^ 9 * (86400 * days + 3600 * hours + 60 * minutes + seconds)

-- 1970-01-01 00:00:00, which is 62167219200 seconds after 0000-01-01 00:00:00
abbrev pub unix_epoch : ℕ
unix_epoch = 10 ^ 9 * 62167219200

-- 10000-01-01 00:00:00, the first moment that has no text
abbrev pub end_of_years : ℕ
end_of_years = nanos_of 3652425 0 0 0

-- the moment of a UTCTime, YYMMDDHHMMSSZ (X.690, 11.8; RFC 5280, 4.1.2.5.1)
unfoldable pub utc_moment : List ℕ → ℕ
utc_moment b = nanos_of (day_number (full_year (pair b 0)) (pair b 2) (pair b 4)) (pair b 6) (pair b 8) (pair b 10)

-- the number that digits make in this many decimal places, starting at the first place
unfoldable pub in_places : ℕ → List ℕ → ℕ
in_places zero digits = 0
in_places (suc places) [] = 0
in_places (suc places) (d ∷ ds) = (d - 48) * 10 ^ places + in_places places ds

-- the digits between the point and Z, none if there is no point
abbrev pub fraction_digits : List ℕ → List ℕ
fraction_digits b = take (length b - 16) (drop 15 b)

-- the moment of a GeneralizedTime, YYYYMMDDHHMMSSZ or YYYYMMDDHHMMSS.fZ (X.690, 11.7; RFC 3161, 2.4.2): f has at most
-- nine digits, the first of them tenths of a second and the ninth nanoseconds
unfoldable pub generalized_moment : List ℕ → ℕ
generalized_moment b = nanos_of (day_number (100 * pair b 0 + pair b 2) (pair b 4) (pair b 6)) (pair b 8) (pair b 10)
    (pair b 12) + in_places 9 (fraction_digits b)

-- reading the contents of a time
abbrev pub utc_in : Spot → Result ℕ Fault
utc_in s = if is_utc s.rest then Ok (utc_moment s.rest) else Err (fault Time s.pos)

abbrev pub generalized_in : Spot → Result ℕ Fault
generalized_in s = if is_generalized s.rest then Ok (generalized_moment s.rest) else Err (fault Time s.pos)

-- two texts that denote one moment are the same text
abbrev pub TextsAreUnique : Type 0
TextsAreUnique = (a b : List ℕ) → is_generalized a ≡ true → is_generalized b ≡ true
    → generalized_moment a ≡ generalized_moment b → a ≡ b

-- the two numbers above are the moments at which those days begin
abbrev pub EpochIsADay : Type 0
EpochIsADay = unix_epoch ≡ nanos_of (day_number 1970 1 1) 0 0 0

abbrev pub EndIsADay : Type 0
EndIsADay = end_of_years ≡ nanos_of (day_number 10000 1 1) 0 0 0
