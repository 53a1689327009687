-- The calendar compared with that of jiff, which the code uses.
use Rattle.std.proofs.Common.{◌≡◌, ℕ, zero, suc, ◌+◌, ◌-◌, ◌<◌, ◌≤◌, Bool, true, false, ◌||◌, cond, eqb, refl, sym, ap}
use Rattle.std.proofs.Common.{◌∙◌, arith, ℤ, pos, negsuc, ◌+ℤ◌, neg_ℤ}
use Rattle.std.proofs.Common.{unsigned_abs, to_z, of_z, w8, w16, w64}
use Rattle.std.proofs.lemmas.Int.{ints, to_z_pos}
use Rattle.jiff_core.specs.declared.civil.date.Date.{Date}
use Rattle.jiff_core.specs.Date.{epoch_day, IsYmd}
use Rattle.jiff_core.specs.Calendar.{IsCivilDate, IsEpochDay, days_in_month, days_of_months, days_from_civil, day_count}
use Rattle.jiff_core.proofs.CalendarLemmas.{day_count-epoch, days_from_civil-day_count, day_count-day_of_year}
use Rattle.jiff_core.proofs.CalendarLemmas.{day_count-next_year, days_of_months-zero}
use Rattle.jiff_core.proofs.CalendarLemmas.{days_of_months_more, day_count-lt_year, day_count_bounds}
use Rattle.jiff_core.proofs.DateLemmas.{civil, epoch_day_injective}
use Rattle.jiff_core.proofs.SignedLemmas.{signed_arith, back_small}
use Rattle.der_core.specs.Times.{is_leap, days_of, is_day}
use Rattle.der_time.specs.Calendar.{days_before_year, days_before_month}
use Rattle.der_time.proofs.Days.{year_step, month_first, month_step, date_from, days_of_le}
use Rattle.der_time.specs.Calendar.{day_number, DaysAreCivil}

or_grouped : (a b c d : Bool) → (a || (b || (c || d))) ≡ (((a || b) || c) || d)
or_grouped true b c d = refl
or_grouped false true c d = refl
or_grouped false false true d = refl
or_grouped false false false d = refl

month_is : (y m : ℕ) → days_of y m ≡ days_in_month (pos y) m
month_is y m = ap (λ (t : Bool). cond (eqb m 2) (cond (is_leap y) 29 28) (cond t 30 31))
    (or_grouped (eqb m 4) (eqb m 6) (eqb m 9) (eqb m 11))

months_are : (y m : ℕ) → days_before_month y (m + 1) ≡ days_of_months (pos y) m
months_are y zero = month_first y ∙ sym (days_of_months-zero (pos y))
months_are y (suc m) =
    let at : suc m ≡ m + 1 = omega arith in
    let back : m + 1 - 1 ≡ m = omega arith in
    let more = days_of_months_more (pos y) (m + 1) (omega arith) in
    let next : days_of_months (pos y) (m + 1) ≡ days_of_months (pos y) m + days_in_month (pos y) (m + 1) =
    more ∙ ap (λ (k : ℕ). days_of_months (pos y) k + days_in_month (pos y) (m + 1)) back in
    ap (λ (k : ℕ). days_before_month y (k + 1)) at
    ∙ omega (arith, month_step y (m + 1) (omega arith), months_are y m, month_is y (m + 1), next)
    ∙ ap (λ (k : ℕ). days_of_months (pos y) k) (sym at)

year_long : (b : Bool) → 365 + cond b 1 0 ≡ cond b 366 365
year_long true = refl
year_long false = refl

years_are : (y : ℕ) → day_count (pos y) 1 1 ≡ day_count (pos 0) 1 1 + days_before_year y
years_are zero = omega arith
years_are (suc y) =
    let at : suc y ≡ y + 1 = omega arith in
    let next = day_count-next_year (pos y) (pos (y + 1)) (omega (arith, ints)) (omega (arith, ints)) in
    ap (λ (k : ℕ). day_count (pos k) 1 1) at ∙ omega (arith, next, years_are y, year_step y, year_long (is_leap y))
    ∙ ap (λ (k : ℕ). day_count (pos 0) 1 1 + days_before_year k) (sym at)

pub days_are_civil : DaysAreCivil
days_are_civil y m d a b =
    let n : ℕ = m - 1 in
    let at : n + 1 ≡ m = omega arith in
    let months : days_before_month y m ≡ days_of_months (pos y) (m - 1) = ap (λ (k : ℕ). days_before_month y k) (sym at)
    ∙ months_are y n in
    omega (
      arith,
      ints,
      days_from_civil-day_count (pos y) m d,
      day_count-day_of_year (pos y) m d b,
      months,
      years_are y,
      years_are 1970,
      day_count-epoch,
    )

-- a date of jiff in a year from 0000 on has the day number that we define
pub number_is : (y m d : ℕ) (date : Date) → date.year ≡ pos y
    → date.month ≡ m → date.day ≡ d → 1 ≤ m → 1 ≤ d → epoch_day date +ℤ pos 719528 ≡ pos (day_number y m d)
number_is y m d date a b e f g = rw (a, b, e) (days_are_civil y m d f g)

-- the same for the date that the code makes from narrower integers
pub made_number : (y m d : ℕ) (date : Date) → y < 10000 → is_day y m d ≡ true → date.year ≡ to_z w16 y
    → pos date.month ≡ to_z w8 m
    → pos date.day ≡ to_z w8 d → epoch_day date +ℤ pos 719528 ≡ pos (day_number y m d)
made_number y m d date below day a b e =
    let h = date_from y m d day in
    let few = days_of_le y m in
    let mi : pos date.month ≡ pos m = b ∙ to_z_pos w8 m (omega (arith, h.month_high)) in
    let di : pos date.day ≡ pos d = e ∙ to_z_pos w8 d (omega (arith, few, h.day_high)) in
    number_is y m d date (a ∙ to_z_pos w16 y (omega arith)) (omega (arith, ints, mi))
    (omega (arith, ints, di)) h.month_low h.day_low

-- 0000-01-01
pub first_day : days_from_civil (pos 0) 1 1 ≡ neg_ℤ (pos 719528)
first_day = omega (arith, signed_arith, days_are_civil 0 1 1 (omega arith) (omega arith), month_first 0)

-- from that day on years are not negative
not_negative : (y : ℤ) (m d n : ℕ) → IsCivilDate y m d → days_from_civil y m d +ℤ pos 719528 ≡ pos n
    → y ≡ pos (unsigned_abs y)
not_negative (pos y) m d n c h = refl
not_negative (negsuc y) m d n c h =
    let before = day_count-lt_year (negsuc y) m d (pos 0) 1 1 c (omega arith) (omega (arith, signed_arith)) in
    absurd (omega (
      arith,
      signed_arith,
      h,
      before,
      days_from_civil-day_count (negsuc y) m d,
      days_from_civil-day_count (pos 0) 1 1,
      first_day,
    ))

pub year_is : (date : Date) (n : ℕ) → epoch_day date +ℤ pos 719528 ≡ pos n → date.year ≡ pos (unsigned_abs date.year)
year_is date n h = not_negative date.year date.month date.day n (civil date) h

-- the date of a number, from the parts that the code takes
pub parts_number : (date : Date) (n : ℕ) (y m d : ℤ) → y ≡ date.year → m ≡ pos date.month → d ≡ pos date.day
    → epoch_day date +ℤ pos 719528 ≡ pos n
    → day_number (unsigned_abs (to_z w16 (of_z w16 y))) (unsigned_abs (to_z w8 (of_z w8 m)))
    (unsigned_abs (to_z w8 (of_z w8 d))) ≡ n
parts_number date n y m d a b e h =
    let c = civil date in
    let is = year_is date n h in
    let few = days_of_le (unsigned_abs date.year) date.month in
    let long : days_of (unsigned_abs date.year) date.month ≡ days_in_month date.year date.month =
    month_is (unsigned_abs date.year) date.month
    ∙ ap (λ (z : ℤ). days_in_month z date.month) (sym is) in
    let ye : to_z w16 (of_z w16 y) ≡ date.year = ap (λ (z : ℤ). to_z w16 (of_z w16 z)) a
    ∙ back_small w16 date.year (omega (arith, signed_arith, c)) in
    let me : to_z w8 (of_z w8 m) ≡ pos date.month = ap (λ (z : ℤ). to_z w8 (of_z w8 z)) b
    ∙ back_small w8 (pos date.month) (omega (arith, signed_arith, c)) in
    let de : to_z w8 (of_z w8 d) ≡ pos date.day = ap (λ (z : ℤ). to_z w8 (of_z w8 z)) e ∙ back_small w8 (pos date.day)
    (omega (arith, signed_arith, c, few, long)) in
    rw (ye, me, de) (omega (
      arith,
      ints,
      number_is (unsigned_abs date.year) date.month date.day date is refl refl
          (omega (arith, c)) (omega (arith, c)),
      h,
    ))

-- the date this many days after 0000-01-01
first_is : (first : Date) → first.year ≡ pos 0 → pos first.month ≡ pos 1 → pos first.day ≡ pos 1
    → epoch_day first ≡ neg_ℤ (pos 719528)
first_is first a b e =
    let m : first.month ≡ 1 = omega (arith, ints, b) in
    let d : first.day ≡ 1 = omega (arith, ints, e) in
    rw (a, m, d) first_day

pub days_on : (first date : Date) (n : ℕ) → IsYmd (pos 0) (pos 1) (pos 1) first → n < 3652425
    → epoch_day date ≡ epoch_day first +ℤ to_z w64 n
    → epoch_day date +ℤ pos 719528 ≡ pos n
days_on first date n is l h =
    omega (arith, signed_arith, h, first_is first is.0 is.1 is.2, to_z_pos w64 n (omega arith))

pub days_within : (first : Date) (n : ℕ) → IsYmd (pos 0) (pos 1) (pos 1) first → n < 3652425
    → IsEpochDay (epoch_day first +ℤ to_z w64 n)
days_within first n is l = omega (arith, signed_arith, first_is first is.0 is.1 is.2, to_z_pos w64 n (omega arith))

pub is_civil : (y m d : ℕ) → y < 10000 → is_day y m d ≡ true → IsCivilDate (pos y) m d
is_civil y m d l day =
    let h = date_from y m d day in (
      (omega (arith, signed_arith), omega (arith, signed_arith)),
      (h.month_low, h.month_high),
      (h.day_low, omega (arith, h.day_high, month_is y m)),
    )

pub day_below : (y m d : ℕ) → y < 10000 → is_day y m d ≡ true → day_number y m d < 3652425
day_below y m d l day =
    let h = date_from y m d day in
    omega (
      arith,
      signed_arith,
      days_are_civil y m d h.month_low h.day_low,
      days_from_civil-day_count (pos y) m d,
      day_count_bounds (pos y) m d (is_civil y m d l day),
    )

abbrev dated : (y m d : ℕ) → IsCivilDate (pos y) m d → Date
dated y m d c = record { year = pos y; month = m; day = d; year_in = c.0; month_in = c.1; day_in = c.2 }

-- a day number belongs to one date
pub same_date : (y z m n d e : ℕ) → y < 10000 → z < 10000 → is_day y m d ≡ true → is_day z n e ≡ true
    → day_number y m d ≡ day_number z n e
    → (y ≡ z) × (m ≡ n) × (d ≡ e)
same_date y z m n d e k l g h same =
    let a = date_from y m d g in
    let b = date_from z n e h in
    let same_day : days_from_civil (pos y) m d ≡ days_from_civil (pos z) n e =
    omega (
      arith,
      signed_arith,
      same,
      days_are_civil y m d a.month_low a.day_low,
      days_are_civil z n e b.month_low b.day_low,
    ) in
    let s = epoch_day_injective (dated y m d (is_civil y m d k g)) (dated z n e (is_civil z n e l h)) same_day in
    (omega (arith, ints, s.0), s.1, s.2)
