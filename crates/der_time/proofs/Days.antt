-- The count of days in the Gregorian calendar: by years and by months.
use Rattle.std.proofs.Common.{◌≡◌, ℕ, ◌+◌, ◌/◌, ◌%◌, ◌≤◌, Bool, true, false, not, ◌&&◌, ◌||◌, cond, eqb, leb, refl, ◌∙◌}
use Rattle.std.proofs.Common.{arith, inl, inr, add-one}
use Rattle.std.proofs.lemmas.Bool.{eqb-true, eqb-false, eq-eqb, ne_eqb, cases_Bool, leb-true, and_parts, cond_both}
use Rattle.der_core.specs.Times.{is_leap, days_of, is_day}
use Rattle.der_time.specs.Calendar.{leap_days_before, days_before_year, days_before_month, YearsAreGregorian}
use Rattle.der_time.specs.Calendar.{MonthsAreTheYear}

abbrev pub leap_day : ℕ → ℕ
leap_day year = cond (is_leap year) 1 0

fourths : (y : ℕ) → (y + 1 + 3) / 4 ≡ (y + 3) / 4 + cond (eqb (y % 4) 0) 1 0
fourths y = cond_both (eqb (y % 4) 0) 1 0 (λ n. (y + 1 + 3) / 4 ≡ (y + 3) / 4 + n) (λ e. omega (arith, eqb-true _ _ e))
    (λ e. omega (arith, eqb-false _ _ e))

hundredths : (y : ℕ) → (y + 1 + 99) / 100 ≡ (y + 99) / 100 + cond (eqb (y % 100) 0) 1 0
hundredths y =
    cond_both (eqb (y % 100) 0) 1 0 (λ n. (y + 1 + 99) / 100 ≡ (y + 99) / 100 + n) (λ e. omega (arith, eqb-true _ _ e))
    (λ e. omega (arith, eqb-false _ _ e))

four_hundredths : (y : ℕ) → (y + 1 + 399) / 400 ≡ (y + 399) / 400 + cond (eqb (y % 400) 0) 1 0
four_hundredths y = cond_both (eqb (y % 400) 0) 1 0 (λ n. (y + 1 + 399) / 400 ≡ (y + 399) / 400 + n)
    (λ e. omega (arith, eqb-true _ _ e))
    (λ e. omega (arith, eqb-false _ _ e))

-- a leap day is counted, subtracted, and counted again
counted : (a b c : Bool) → (b ≡ true → a ≡ true) → (c ≡ true → b ≡ true)
    → cond a 1 0 + cond c 1 0 ≡ cond b 1 0 + cond (a && (not b || c)) 1 0
counted true true true h g = refl
counted true true false h g = refl
counted true false true h g = absurd (let z = g refl in cc)
counted true false false h g = refl
counted false true c h g = absurd (let z = h refl in cc)
counted false false true h g = absurd (let z = g refl in cc)
counted false false false h g = refl

leap_step : (y : ℕ) → leap_days_before (y + 1) ≡ leap_days_before y + leap_day y
leap_step y =
    let a = fourths y in
    let b = hundredths y in
    let c = four_hundredths y in
    let d = counted (eqb (y % 4) 0) (eqb (y % 100) 0) (eqb (y % 400) 0)
    (λ e. eq-eqb _ _ (omega (arith, eqb-true _ _ e)))
    (λ e. eq-eqb _ _ (omega (arith, eqb-true _ _ e))) in
    omega (arith, a, b, c, d)

-- a year has 365 days, and a leap year has one more
pub year_step : (y : ℕ) → days_before_year (y + 1) ≡ days_before_year y + 365 + leap_day y
year_step y = omega (arith, leap_step y)

pub month_step : (y m : ℕ) → 1 ≤ m → days_before_month y (m + 1) ≡ days_before_month y m + days_of y m
unfolding days_before_month
month_step y m h =
    let e : eqb m 0 ≡ false = ne_eqb _ _ (λ z. omega (arith, z)) in
    rw add-one (rw e refl)

pub month_first : (y : ℕ) → days_before_month y 1 ≡ 0
unfolding days_before_month
month_first y = refl

-- the months add up to the year
pub month_last : (y : ℕ) → days_before_month y 13 ≡ 365 + leap_day y
unfolding days_before_month
month_last y = elim (cases_Bool (is_leap y)) [ inl e ↦ rw e refl | inr e ↦ rw e refl ]

pub days_of_le : (y m : ℕ) → days_of y m ≤ 31
days_of_le y m =
    cond_both (eqb m 2) (cond (is_leap y) 29 28) (cond (eqb m 4 || (eqb m 6 || (eqb m 9 || eqb m 11))) 30 31)
    (λ n. n ≤ 31)
    (λ _. cond_both (is_leap y) 29 28 (λ n. n ≤ 31) (λ _. omega arith) (λ _. omega arith))
    (λ _. cond_both (eqb m 4 || (eqb m 6 || (eqb m 9 || eqb m 11))) 30 31 (λ n. n ≤ 31) (λ _. omega arith)
    (λ _. omega arith))

-- ---- dates

pub record IsDate (year month day : ℕ) : Type 0 where
  pub month_low : 1 ≤ month
  pub month_high : month ≤ 12
  pub day_low : 1 ≤ day
  pub day_high : day ≤ days_of year month

pub date_from : (y m d : ℕ) → is_day y m d ≡ true → IsDate y m d
date_from y m d h =
    let p = and_parts (leb 1 m && leb m 12) (leb 1 d && leb d (days_of y m)) h in
    let q = and_parts (leb 1 m) (leb m 12) p.0 in
    let r = and_parts (leb 1 d) (leb d (days_of y m)) p.1 in
    record {
      month_low = leb-true 1 m q.0;
      month_high = leb-true m 12 q.1;
      day_low = leb-true 1 d r.0;
      day_high = leb-true d (days_of y m) r.1;
    }

long_year : (leap : Bool) → 365 + cond leap 1 0 ≡ cond leap 366 365
long_year true = refl
long_year false = refl

pub years_are_gregorian : YearsAreGregorian
years_are_gregorian = (refl, λ y. omega (arith, year_step y, long_year (is_leap y)))

pub months_are_the_year : MonthsAreTheYear
months_are_the_year y = month_last y ∙ long_year (is_leap y)
