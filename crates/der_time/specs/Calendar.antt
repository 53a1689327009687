-- The days of the Gregorian calendar, counted from the first day of the year 0000 (ISO 8601-1, 4.2.1: the calendar also
-- before its introduction).
use Rattle.std.specs.Prelude.{◌≡◌, ℕ, zero, suc, ◌+◌, ◌-◌, ◌*◌, ◌/◌, ◌≤◌, ◌==◌, if◌then◌else◌, pos, ◌+ℤ◌}
use Rattle.jiff_core.specs.Calendar.{days_from_civil}
use Rattle.der_core.specs.Times.{is_leap, days_of}

-- the leap days before a year: one for each fourth year from 0000 on, except that a hundredth year counts only if it is
-- also a four-hundredth
abbrev pub leap_days_before : (year : ℕ) → ℕ
leap_days_before year = (year + 3) / 4 - (year + 99) / 100 + (year + 399) / 400

abbrev pub days_before_year : (year : ℕ) → ℕ
days_before_year year = 365 * year + leap_days_before year

-- the days of the year in the months before this one
unfoldable pub days_before_month : (year month : ℕ) → ℕ
days_before_month year zero = 0
days_before_month year (suc month) = days_before_month year month + (if month == 0 then 0 else days_of year month)

-- the number of a day: how many days there are from 0000-01-01 up to it, without it
abbrev pub day_number : (year month day : ℕ) → ℕ
day_number year month day = days_before_year year + days_before_month year month + (day - 1)

-- how long a year is
abbrev pub days_of_year : ℕ → ℕ
days_of_year year = if is_leap year then 366 else 365

-- the count begins at 0 with the year 0000, and grows by the days of each year
abbrev pub YearsAreGregorian : Type 0
YearsAreGregorian = (days_before_year 0 ≡ 0)
    × ((year : ℕ) → days_before_year (year + 1) ≡ days_before_year year + days_of_year year)

-- the days of the twelve months add up to those of the year
abbrev pub MonthsAreTheYear : Type 0
MonthsAreTheYear = (year : ℕ) → days_before_month year 13 ≡ days_of_year year

-- the days are those that jiff counts from 1970-01-01
abbrev pub DaysAreCivil : Type 0
DaysAreCivil = (year month day : ℕ) → 1 ≤ month → 1 ≤ day → days_from_civil (pos year) month day +ℤ pos
    719528 ≡ pos (day_number year month day)
