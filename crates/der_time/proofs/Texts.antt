-- What it means that the two tests of texts succeed, and the readings of the two texts.
use Rattle.std.proofs.Common.{◌≡◌, ℕ, zero, suc, ◌+◌, ◌-◌, ◌*◌, ◌<◌, ◌≤◌, Bool, true, false, not, ◌&&◌, ◌||◌, eqb, leb}
use Rattle.std.proofs.Common.{List, [], ◌∷◌, length, get_or, take}
use Rattle.std.proofs.Common.{drop, Ok, Err, refl, sym, ap, ◌∙◌, arith, inl, inr}
use Rattle.std.proofs.lemmas.Bool.{eqb-true, eqb-false, leb-true, le-leb, not-true, and_parts, and_right, or_cases}
use Rattle.std.proofs.lemmas.Bool.{cases_lt, cases_eq, cond-true}
use Rattle.std.proofs.lemmas.List.{get_or-take, get_or-drop, get_or_past, length-take, length-drop, drop-drop}
use Rattle.std.specs.Str.{IsAscii}
use Rattle.der_core.specs.declared.fault.Kind.TheVariants.{Time}
use Rattle.der_core.specs.Reading.{spot, fault}
use Rattle.der_core.specs.Lists.{every, is_same}
use Rattle.der_core.specs.Times.{is_digit, pair, full_year, is_day, is_clock, is_fraction, is_utc, is_generalized}
use Rattle.der_time.specs.Moments.{utc_moment, utc_in, fraction_digits, generalized_moment, generalized_in}

-- ---- digits

pub record IsDigit (x : ℕ) : Type 0 where
  pub low : 48 ≤ x
  pub high : x ≤ 57

pub digit_from : (x : ℕ) → is_digit x ≡ true → IsDigit x
digit_from x h =
    let p = and_parts (leb 48 x) (leb x 57) h in
    record { low = leb-true 48 x p.0; high = leb-true x 57 p.1 }

pub every_at : (test : ℕ → Bool) (xs : List ℕ) (i : ℕ) → every test xs ≡ true → i < length xs
    → test (get_or xs i 0) ≡ true
every_at test [] i h l = absurd (omega arith)
every_at test (x ∷ xs) zero h l = (and_parts (test x) (every test xs) h).0
every_at test (x ∷ xs) (suc i) h l = every_at test xs i (and_parts (test x) (every test xs) h).1 (omega arith)

-- ---- UTCTime

pub record IsUtc (b : List ℕ) : Type 0 where
  pub day : is_day (full_year (pair b 0)) (pair b 2) (pair b 4) ≡ true
  pub clock : is_clock (pair b 6) (pair b 8) (pair b 10) ≡ true

pub utc_parts : (b : List ℕ) → is_utc b ≡ true → IsUtc b
utc_parts b h =
    let day : Bool = is_day (full_year (pair b 0)) (pair b 2) (pair b 4) in
    let clock : Bool = is_clock (pair b 6) (pair b 8) (pair b 10) in
    let p =
    and_parts (eqb (length b) 13) (every is_digit (take 12 b) && (eqb (get_or b 12 0) 90 && (day && clock))) h in
    let q = and_parts (every is_digit (take 12 b)) (eqb (get_or b 12 0) 90 && (day && clock)) p.1 in
    let r = and_parts (eqb (get_or b 12 0) 90) (day && clock) q.1 in
    let s = and_parts day clock r.1 in
    record { day = s.0; clock = s.1 }

pub utc_read : (n m : ℕ) (b : List ℕ) → is_utc b ≡ true → m ≡ utc_moment b → utc_in (spot n b) ≡ Ok m
utc_read n m b h e = cond-true (is_utc b) (Ok (utc_moment b)) (Err (fault Time n)) h ∙ ap (λ (k : ℕ). Ok k) (sym e)

-- ---- GeneralizedTime

pub record IsGeneralized (b : List ℕ) : Type 0 where
  pub long : 15 ≤ length b
  pub digits : every is_digit (take 14 b) ≡ true
  pub day : is_day (100 * pair b 0 + pair b 2) (pair b 4) (pair b 6) ≡ true
  pub clock : is_clock (pair b 8) (pair b 10) (pair b 12) ≡ true
  pub tail : (is_same (drop 14 b) (90 ∷ []) || is_fraction (drop 14 b)) ≡ true

pub generalized_parts : (b : List ℕ) → is_generalized b ≡ true → IsGeneralized b
generalized_parts b h =
    let long : Bool = leb 15 (length b) in
    let digits : Bool = every is_digit (take 14 b) in
    let day : Bool = is_day (100 * pair b 0 + pair b 2) (pair b 4) (pair b 6) in
    let clock : Bool = is_clock (pair b 8) (pair b 10) (pair b 12) in
    let tail : Bool = is_same (drop 14 b) (90 ∷ []) || is_fraction (drop 14 b) in
    let p = and_parts long (digits && (day && (clock && tail))) h in
    let q = and_parts digits (day && (clock && tail)) p.1 in
    let r = and_parts day (clock && tail) q.1 in
    let s = and_parts clock tail r.1 in
    record { long = leb-true 15 (length b) p.0; digits = q.0; day = r.0; clock = s.0; tail = s.1 }

pub generalized_read : (n m : ℕ) (b : List ℕ) → is_generalized b ≡ true → m ≡ generalized_moment b
    → generalized_in (spot n b) ≡ Ok m
generalized_read n m b h e =
    cond-true (is_generalized b) (Ok (generalized_moment b)) (Err (fault Time n)) h ∙ ap (λ (k : ℕ). Ok k) (sym e)

pub digit_at : (b : List ℕ) (i : ℕ) → IsGeneralized b → i < 14 → IsDigit (get_or b i 0)
digit_at b i h l =
    let inside : i < length (take 14 b) = omega (arith, length-take 14 b, h.long) in
    digit_from (get_or b i 0)
    (ap is_digit (sym (get_or-take 14 b i 0 l)) ∙ every_at is_digit (take 14 b) i h.digits inside)

pub pair_below : (b : List ℕ) (i : ℕ) → IsGeneralized b → i + 1 < 14 → pair b i < 100
pair_below b i h l = omega (arith, digit_at b i h (omega arith), digit_at b (i + 1) h l)

pub year_below : (b : List ℕ) → IsGeneralized b → 100 * pair b 0 + pair b 2 < 10000
year_below b h = omega (arith, pair_below b 0 h (omega arith), pair_below b 2 h (omega arith))

-- ---- the fraction

pub record IsFraction (r : List ℕ) : Type 0 where
  pub long : 3 ≤ length r
  pub short : length r ≤ 11
  pub point : get_or r 0 0 ≡ 46
  pub digits : every is_digit (take (length r - 2) (drop 1 r)) ≡ true
  pub last : get_or r (length r - 2) 0 ≡ 48 → ⊥
  pub end : get_or r (length r - 1) 0 ≡ 90

pub fraction_parts : (r : List ℕ) → is_fraction r ≡ true → IsFraction r
fraction_parts r h =
    let long : Bool = leb 3 (length r) in
    let short : Bool = leb (length r) 11 in
    let point : Bool = eqb (get_or r 0 0) 46 in
    let digits : Bool = every is_digit (take (length r - 2) (drop 1 r)) in
    let last : Bool = eqb (get_or r (length r - 2) 0) 48 in
    let ends : Bool = eqb (get_or r (length r - 1) 0) 90 in
    let p = and_parts (long && short) (point && (digits && (not last && ends))) h in
    let q = and_parts point (digits && (not last && ends)) p.1 in
    let s = and_parts digits (not last && ends) q.1 in
    let t = and_parts (not last) ends s.1 in
    let u = and_parts long short p.0 in
    record {
      long = leb-true 3 (length r) u.0;
      short = leb-true (length r) 11 u.1;
      point = eqb-true (get_or r 0 0) 46 q.0;
      digits = s.0;
      last = eqb-false (get_or r (length r - 2) 0) 48 (not-true last t.0);
      end = eqb-true (get_or r (length r - 1) 0) 90 t.1;
    }

-- ---- what follows the seconds

pub other_length : (r : List ℕ) → (length r ≡ 1 → ⊥) → false ≡ is_same r (90 ∷ [])
other_length [] h = refl
other_length (x ∷ []) h = absurd (h refl)
other_length (x ∷ y ∷ ys) h = sym (and_right (eqb x 90) false refl)

pub same_from : (xs ys : List ℕ) → is_same xs ys ≡ true → xs ≡ ys
same_from [] [] h = refl
same_from [] (y ∷ ys) h = absurd cc
same_from (x ∷ xs) [] h = absurd cc
same_from (x ∷ xs) (y ∷ ys) h =
    let p = and_parts (eqb x y) (is_same xs ys) h in
    let e : x ≡ y = eqb-true x y p.0 in
    let es : xs ≡ ys = same_from xs ys p.1 in
    cc

-- the text ends after the seconds
pub no_fraction : (b : List ℕ) → drop 14 b ≡ 90 ∷ [] → fraction_digits b ≡ []
no_fraction b e =
    let size : length b - 16 ≡ 0 = omega (arith, ap length e, length-drop 14 b) in
    ap (λ (n : ℕ). take n (drop 15 b)) size

-- or there is a fraction
pub fraction_is : (b : List ℕ) → fraction_digits b ≡ take (length (drop 14 b) - 2) (drop 1 (drop 14 b))
fraction_is b =
    let size : length b - 16 ≡ length (drop 14 b) - 2 = omega (arith, length-drop 14 b) in
    ap (λ (n : ℕ). take n (drop 15 b)) size
    ∙ ap (λ (ds : List ℕ). take (length (drop 14 b) - 2) ds) (sym (drop-drop 1 14 b))

pub fraction_of_digits : (b : List ℕ) → IsGeneralized b → every is_digit (fraction_digits b) ≡ true
fraction_of_digits b h =
    elim (or_cases (is_same (drop 14 b) (90 ∷ [])) (is_fraction (drop 14 b)) h.tail) [
      | inl e ↦ ap (every is_digit) (no_fraction b (same_from (drop 14 b) (90 ∷ []) e))
      | inr e ↦ ap (every is_digit) (fraction_is b) ∙ (fraction_parts (drop 14 b) e).digits
    ]

front : (x y : Bool) → x ≡ true → (x && y) ≡ y
front true y h = refl
front false y h = absurd cc

-- only the tail is left to test
pub tail_decides : (b : List ℕ) (t : Bool) → 15 ≤ length b → every is_digit (take 14 b) ≡ true
    → is_day (100 * pair b 0 + pair b 2) (pair b 4) (pair b 6) ≡ true
    → is_clock (pair b 8) (pair b 10) (pair b 12) ≡ true
    → t ≡ (is_same (drop 14 b) (90 ∷ []) || is_fraction (drop 14 b)) → t ≡ is_generalized b
tail_decides b t long digits day clock e =
    let tail : Bool = is_same (drop 14 b) (90 ∷ []) || is_fraction (drop 14 b) in
    let day' : Bool = is_day (100 * pair b 0 + pair b 2) (pair b 4) (pair b 6) in
    let clock' : Bool = is_clock (pair b 8) (pair b 10) (pair b 12) in
    let whole : is_generalized b ≡ tail =
    front (leb 15 (length b)) (every is_digit (take 14 b) && (day' && (clock' && tail))) (le-leb 15 (length b) long)
    ∙ front (every is_digit (take 14 b)) (day' && (clock' && tail)) digits
    ∙ front day' (clock' && tail) day
    ∙ front clock' tail clock in
    e ∙ sym whole

-- ---- a text has no octet above 127

pub fraction_within : (r : List ℕ) (i : ℕ) → IsFraction r → i < length r → (32 < get_or r i 0) × (get_or r i 0 < 128)
fraction_within r i f l =
    elim (cases_lt i (length r - 1)) [
      | inr end ↦
          let e : i ≡ length r - 1 = omega arith in
          let is = ap (λ (n : ℕ). get_or r n 0) e in
          (omega (arith, is, f.end), omega (arith, is, f.end))
      | inl before ↦ elim (cases_eq i 0) [
        | inl e ↦
            let is = ap (λ (n : ℕ). get_or r n 0) e in
            (omega (arith, is, f.point), omega (arith, is, f.point))
        | inr e ↦
            let at : 1 + (i - 1) ≡ i = omega arith in
            let size : length (take (length r - 2) (drop 1 r)) ≡ length r - 2 = length-take (length r - 2) (drop 1 r)
            ∙ omega (arith, length-drop 1 r) in
            let is : get_or (take (length r - 2) (drop 1 r)) (i - 1) 0 ≡ get_or r i 0 =
            get_or-take (length r - 2) (drop 1 r) (i - 1) 0 (omega arith)
            ∙ get_or-drop 1 r (i - 1) 0 ∙ ap (λ (n : ℕ). get_or r n 0) at in
            let d = digit_from (get_or (take (length r - 2) (drop 1 r)) (i - 1) 0)
            (every_at is_digit (take (length r - 2) (drop 1 r)) (i - 1) f.digits (omega arith)) in
            (omega (arith, d.low, is), omega (arith, d.high, is))
      ]
    ]

fraction_octets : (r : List ℕ) (i : ℕ) → IsFraction r → get_or r i 0 < 128
fraction_octets r i f = elim (cases_lt i (length r)) [
  | inl l ↦ (fraction_within r i f l).1
  | inr l ↦ omega (arith, get_or_past r i 0 l)
]

tail_octets : (r : List ℕ) (i : ℕ) → (is_same r (90 ∷ []) || is_fraction r) ≡ true → get_or r i 0 < 128
tail_octets r i h =
    elim (or_cases (is_same r (90 ∷ [])) (is_fraction r) h) [
      | inr e ↦ fraction_octets r i (fraction_parts r e)
      | inl e ↦ let is : r ≡ 90 ∷ [] = same_from r (90 ∷ []) e in
          omega (arith, ap (λ (v : List ℕ). get_or v i 0) is, end_octets i)
    ]
  where
    end_octets : (i : ℕ) → get_or (90 ∷ []) i 0 < 128
    end_octets zero = omega arith
    end_octets (suc i) = omega arith

pub text_is_ascii : (b : List ℕ) → is_generalized b ≡ true → IsAscii b
text_is_ascii b h i =
    let p = generalized_parts b h in
    elim (cases_lt i 14) [
      | inl l ↦ let d = digit_at b i p l in omega (arith, d.high)
      | inr l ↦
          let at : 14 + (i - 14) ≡ i = omega arith in
          omega (
            arith,
            tail_octets (drop 14 b) (i - 14) p.tail,
            get_or-drop 14 b (i - 14) 0,
            ap (λ (n : ℕ). get_or b n 0) at,
          )
    ]
