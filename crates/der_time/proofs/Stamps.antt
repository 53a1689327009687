-- The texts of a date and a clock, with and without a fraction, are GeneralizedTimes of that moment.
use Rattle.std.proofs.Common.{◌≡◌, ℕ, suc, ◌+◌, ◌-◌, ◌*◌, ◌/◌, ◌%◌, ◌^◌, ◌<◌, ◌≤◌, Bool, true, not, ◌&&◌, ◌||◌, eqb}
use Rattle.std.proofs.Common.{leb, List, [], ◌∷◌, ◌++◌, length, get_or}
use Rattle.std.proofs.Common.{take, drop, set, refl, sym, ap, subst, ◌∙◌, arith, inl, inr, ◌⊎◌, zero-add}
use Rattle.std.proofs.lemmas.Bool.{and_from, le-leb, eq-eqb, ne_eqb, not_from_false, or_right}
use Rattle.std.proofs.lemmas.List.{length-append, take_at, get_or_at, take_more_set, length-take-le, get_or_append_left}
use Rattle.std.proofs.lemmas.List.{get_or-take, take-append-le}
use Rattle.der_core.specs.Lists.{every, is_same}
use Rattle.der_core.specs.Times.{is_digit, pair, is_day, is_clock, is_fraction, is_generalized}
use Rattle.der_time.specs.Calendar.{day_number}
use Rattle.der_time.specs.Moments.{nanos_of, in_places, fraction_digits, generalized_moment}
use Rattle.der_time.specs.Spelling.{two, stamp, places}
use borrow.Rule.Slice.PartMut.{put_mid}
use Rattle.der_time.proofs.Days.{date_from, days_of_le}
use Rattle.der_time.proofs.Places.{in_no_places, digit_is, is_zero, in_places_kept, in_places_of, places_length}
use Rattle.der_time.proofs.Places.{places_digits, every_take}
use Rattle.der_time.proofs.Texts.{tail_decides}

-- ---- two digits

pair_is : (n : ℕ) → 10 * ((48 + n / 10) - 48) + ((48 + n % 10) - 48) ≡ n
pair_is n = omega arith

two_digits : (n : ℕ) (xs : List ℕ) → n < 100 → every is_digit xs ≡ true → every is_digit (two n ++ xs) ≡ true
two_digits n xs l h =
    and_from (is_digit (48 + n / 10)) (is_digit (48 + n % 10) && every is_digit xs) (digit_is (n / 10) (omega arith))
    (and_from (is_digit (48 + n % 10)) (every is_digit xs) (digit_is (n % 10) (omega arith)) h)

-- the numbers that may be in a text
pub record IsStamp (year month day hour minute second : ℕ) : Type 0 where
  pub year_below : year < 10000
  pub date : is_day year month day ≡ true
  pub month_below : month < 100
  pub day_below : day < 100
  pub clock : is_clock hour minute second ≡ true
  pub hour_below : hour < 100
  pub minute_below : minute < 100
  pub second_below : second < 100

module _ (y m d h i s : ℕ) (ok : IsStamp y m d h i s) (r : List ℕ) where
  abbrev text : List ℕ
  text = stamp y m d h i s ++ r

  digits : every is_digit (take 14 text) ≡ true
  digits =
      two_digits (y / 100) (two (y % 100) ++ (two m ++ (two d ++ (two h ++ (two i ++ two s)))))
      (omega (arith, ok.year_below))
      (two_digits (y % 100) (two m ++ (two d ++ (two h ++ (two i ++ two s)))) (omega arith)
      (two_digits m (two d ++ (two h ++ (two i ++ two s))) ok.month_below
      (two_digits d (two h ++ (two i ++ two s)) ok.day_below
      (two_digits h (two i ++ two s) ok.hour_below
      (two_digits i (two s) ok.minute_below
      (two_digits s [] ok.second_below refl))))))

  year : 100 * pair text 0 + pair text 2 ≡ y
  year = omega (arith, pair_is (y / 100), pair_is (y % 100))

  day : is_day (100 * pair text 0 + pair text 2) (pair text 4) (pair text 6) ≡ true
  day =
      subst (λ (a : ℕ). is_day a (pair text 4) (pair text 6) ≡ true) (sym year)
      (subst (λ (b : ℕ). is_day y b (pair text 6) ≡ true) (sym (pair_is m))
      (subst (λ (c : ℕ). is_day y m c ≡ true) (sym (pair_is d)) ok.date))

  clock : is_clock (pair text 8) (pair text 10) (pair text 12) ≡ true
  clock =
      subst (λ (a : ℕ). is_clock a (pair text 10) (pair text 12) ≡ true) (sym (pair_is h))
      (subst (λ (b : ℕ). is_clock h b (pair text 12) ≡ true) (sym (pair_is i))
      (subst (λ (c : ℕ). is_clock h i c ≡ true) (sym (pair_is s)) ok.clock))

  pub stamped : 1 ≤ length r → (is_same r (90 ∷ []) || is_fraction r) ≡ true → is_generalized text ≡ true
  stamped some tail =
      sym (tail_decides text true (omega (arith, some)) digits day clock (sym tail))

  pub stamped_moment : generalized_moment text ≡ nanos_of (day_number y m d) h i s + in_places 9 (fraction_digits text)
  unfolding generalized_moment
  stamped_moment =
      let f : ℕ = in_places 9 (fraction_digits text) in
      ap (λ (a : ℕ).
      nanos_of (day_number a (pair text 4) (pair text 6)) (pair text 8) (pair text 10) (pair text 12) + f) year
      ∙ ap (λ (a : ℕ). nanos_of (day_number y a (pair text 6)) (pair text 8) (pair text 10) (pair text 12) + f)
      (pair_is m)
      ∙ ap (λ (a : ℕ). nanos_of (day_number y m a) (pair text 8) (pair text 10) (pair text 12) + f) (pair_is d)
      ∙ ap (λ (a : ℕ). nanos_of (day_number y m d) a (pair text 10) (pair text 12) + f) (pair_is h)
      ∙ ap (λ (a : ℕ). nanos_of (day_number y m d) h a (pair text 12) + f) (pair_is i)
      ∙ ap (λ (a : ℕ). nanos_of (day_number y m d) h i a + f) (pair_is s)

-- ---- no fraction

pub record Names (text : List ℕ) (moment : ℕ) : Type 0 where
  pub formed : is_generalized text ≡ true
  pub moment_is : generalized_moment text ≡ moment

pub whole_text : (y m d h i s : ℕ) → IsStamp y m d h i s
    → Names (stamp y m d h i s ++ 90 ∷ []) (nanos_of (day_number y m d) h i s)
whole_text y m d h i s ok = record {
  formed = stamped y m d h i s ok (90 ∷ []) (omega arith) refl;
  moment_is = stamped_moment y m d h i s ok (90 ∷ []) ∙ omega (arith, in_no_places 9);
}

-- ---- a fraction

pub record IsPlaces (ds : List ℕ) : Type 0 where
  pub some : 1 ≤ length ds
  pub few : length ds ≤ 9
  pub digits : every is_digit ds ≡ true
  pub last : get_or ds (length ds - 1) 0 ≡ 48 → ⊥

abbrev pub fraction : List ℕ → List ℕ
fraction ds = 46 ∷ (ds ++ 90 ∷ [])

pub is_fraction_of : (ds : List ℕ) → IsPlaces ds → is_fraction (fraction ds) ≡ true
is_fraction_of ds ok =
    let r : List ℕ = fraction ds in
    let size : length r ≡ length ds + 2 = omega (arith, length-append ds (90 ∷ [])) in
    let taken : take (length r - 2) (ds ++ 90 ∷ []) ≡ ds = take_at ds (90 ∷ []) (length r - 2) (omega arith) in
    let at : length r - 2 ≡ suc (length ds - 1) = omega (arith, ok.some) in
    let last : get_or r (length r - 2) 0 ≡ get_or ds (length ds - 1) 0 = ap (λ (n : ℕ). get_or r n 0) at
    ∙ get_or_append_left ds (90 ∷ []) 0 (length ds - 1) (omega (arith, ok.some)) in
    let ends : get_or r (length r - 1) 0 ≡ 90 = get_or_at (46 ∷ ds) 90 [] 0 (length r - 1) (omega arith) in
    let l : Bool = leb 3 (length r) in
    let u : Bool = leb (length r) 11 in
    let p : Bool = eqb (get_or r 0 0) 46 in
    let e : Bool = every is_digit (take (length r - 2) (drop 1 r)) in
    let z : Bool = eqb (get_or r (length r - 2) 0) 48 in
    let w : Bool = eqb (get_or r (length r - 1) 0) 90 in
    and_from (l && u) (p && (e && (not z && w)))
    (and_from l u (le-leb 3 (length r) (omega (arith, ok.some))) (le-leb (length r) 11 (omega (arith, ok.few))))
    (and_from p (e && (not z && w)) refl
    (and_from e (not z && w) (ap (every is_digit) taken ∙ ok.digits)
    (and_from (not z) w (not_from_false z (ne_eqb _ _ (λ v. ok.last (sym last ∙ v)))) (eq-eqb _ _ ends))))

pub fraction_text : (y m d h i s : ℕ) (ds : List ℕ) → IsStamp y m d h i s → IsPlaces ds
    → Names (stamp y m d h i s ++ fraction ds) (nanos_of (day_number y m d) h i s + in_places 9 ds)
fraction_text y m d h i s ds ok places =
    let text : List ℕ = stamp y m d h i s ++ fraction ds in
    let tail : (is_same (fraction ds) (90 ∷ []) || is_fraction (fraction ds)) ≡ true =
    or_right (is_same (fraction ds) (90 ∷ []))
    (is_fraction (fraction ds)) (is_fraction_of ds places) in
    let size = length-append ds (90 ∷ []) in
    let taken : fraction_digits text ≡ ds = take_at ds (90 ∷ []) (length text - 16) (omega (arith, size)) in
    record {
      formed = stamped y m d h i s ok (fraction ds) (omega arith) tail;
      moment_is = stamped_moment y m d h i s ok (fraction ds)
          ∙ ap (λ (v : List ℕ). nanos_of (day_number y m d) h i s + in_places 9 v) taken;
    }

-- ---- the text of a moment

abbrev pub dots : List ℕ
dots = 46 ∷ 46 ∷ 46 ∷ 46 ∷ 46 ∷ 46 ∷ 46 ∷ 46 ∷ 46 ∷ 46 ∷ 46 ∷ []

-- to go on past a list
take_past : (p q : List ℕ) (j : ℕ) → take (length p + j) (p ++ q) ≡ p ++ take j q
take_past [] q j = ap (λ (n : ℕ). take n q) (zero-add j)
take_past (x ∷ p) q j =
    let e : suc (length p) + j ≡ suc (length p + j) = omega arith in
    ap (λ (n : ℕ). take n (x ∷ (p ++ q))) e ∙ ap (λ (r : List ℕ). x ∷ r) (take_past p q j)

-- p are the nine places of n, of which the first j are kept, and e is the place after them
pub record IsKept (n : ℕ) (p : List ℕ) (j e : ℕ) : Type 0 where
  pub are : p ≡ places 9 n
  pub within : j ≤ length p
  pub zeros : every is_zero (drop j p) ≡ true
  pub last : 0 < j → get_or p (j - 1) 0 ≡ 48 → ⊥
  pub ends : ((j ≡ 0) × (e ≡ 14)) ⊎ ((0 < j) × (e ≡ 15 + j))

module _ (y m d h i s n : ℕ) (ok : IsStamp y m d h i s) (small : n < 10 ^ 9) (j : ℕ) where
  abbrev whole_places : List ℕ
  whole_places = places 9 n

  abbrev filled_in : List ℕ
  filled_in = stamp y m d h i s ++ 46 ∷ (whole_places ++ 46 ∷ [])

  abbrev Finished : ℕ → Type 0
  Finished e = Names (take (e + 1) (set filled_in e 90)) (nanos_of (day_number y m d) h i s + n)

  none_kept : every is_zero (drop j whole_places) ≡ true → j ≡ 0 → Finished 14
  none_kept zeros e =
      let kept = in_places_kept 9 j whole_places zeros in
      let empty : in_places 9 (take j whole_places) ≡ 0 = ap (λ (k : ℕ). in_places 9 (take k whole_places)) e
      ∙ in_no_places 9 in
      let none : n ≡ 0 = sym (in_places_of 9 n small) ∙ sym kept ∙ empty in
      let w = whole_text y m d h i s ok in
      record { formed = w.formed; moment_is = w.moment_is ∙ omega (arith, none) }

  some_kept : (e : ℕ) → j ≤ 9 → every is_zero (drop j whole_places) ≡ true → (get_or whole_places (j - 1) 0 ≡ 48 → ⊥)
      → 0 < j → e ≡ 15 + j → Finished e
  some_kept e few zeros last some is =
      let ds : List ℕ = take j whole_places in
      let size : length whole_places ≡ 9 = places_length 9 n in
      let long : length ds ≡ j = length-take-le j whole_places (omega arith) in
      let at : get_or ds (length ds - 1) 0 ≡ get_or whole_places (j - 1) 0 = ap (λ (k : ℕ). get_or ds (k - 1) 0) long
      ∙ get_or-take j whole_places (j - 1) 0 (omega arith) in
      let good : IsPlaces ds = record {
        some = omega arith;
        few = omega arith;
        digits = every_take is_digit j whole_places (places_digits 9 n small);
        last = λ z. last (sym at ∙ z);
      } in
      let t = fraction_text y m d h i s ds ok good in
      let inside : e < length filled_in = omega (arith, length-append whole_places (46 ∷ [])) in
      let upto : take e filled_in ≡ stamp y m d h i s ++ 46 ∷ ds = ap (λ (k : ℕ). take k filled_in) is
      ∙ take_past (stamp y m d h i s ++ 46 ∷ [])
      (whole_places ++ 46 ∷ []) j
      ∙ ap (λ (r : List ℕ). stamp y m d h i s ++ 46 ∷ r) (take-append-le j whole_places (46 ∷ []) (omega arith)) in
      let all : take (e + 1) (set filled_in e 90) ≡ stamp y m d h i s ++ fraction ds =
      take_more_set filled_in e 90 inside
      ∙ ap (λ (r : List ℕ). r ++ 90 ∷ []) upto in
      let value : in_places 9 ds ≡ n = in_places_kept 9 j whole_places zeros ∙ in_places_of 9 n small in
      subst (λ (r : List ℕ). Names r (nanos_of (day_number y m d) h i s + n)) (sym all) (record {
        formed = t.formed;
        moment_is = t.moment_is ∙ ap (λ (k : ℕ). nanos_of (day_number y m d) h i s + k) value;
      })

  -- the buffer after what was written into it
  pub finished : (e : ℕ) → IsKept n whole_places j e
      → Names (take (e + 1) (set (put_mid 15 9 (stamp y m d h i s ++ dots) whole_places) e 90))
      (nanos_of (day_number y m d) h i s + n)
  finished e kept =
      elim kept.ends [
        | inl w ↦ subst Finished (sym w.1) (none_kept kept.zeros w.0)
        | inr w ↦ some_kept e (omega (arith, kept.within, places_length 9 n)) kept.zeros (kept.last w.0) w.0 w.1
      ]

pub clock_from : (c : ℕ) → c < 86400 → is_clock (c / 3600) (c / 60 % 60) (c % 60) ≡ true
clock_from c l =
    and_from (leb (c / 3600) 23) (leb (c / 60 % 60) 59 && leb (c % 60) 59) (le-leb (c / 3600) 23 (omega arith))
    (and_from (leb (c / 60 % 60) 59) (leb (c % 60) 59) (le-leb (c / 60 % 60) 59 (omega arith))
    (le-leb (c % 60) 59 (omega arith)))

pub stamp_from : (y m d c : ℕ) → y < 10000 → is_day y m d ≡ true → c < 86400
    → IsStamp y m d (c / 3600) (c / 60 % 60) (c % 60)
stamp_from y m d c a b l =
    let p = date_from y m d b in
    record {
      year_below = a;
      date = b;
      month_below = omega (arith, p.month_high);
      day_below = omega (arith, p.day_high, days_of_le y m);
      clock = clock_from c l;
      hour_below = omega arith;
      minute_below = omega arith;
      second_below = omega arith;
    }

-- a moment is the sum of its days, seconds and nanoseconds
pub moment_parts : (v days c n : ℕ) → days ≡ v / 10 ^ 9 / 86400 → c ≡ v / 10 ^ 9 % 86400 → n ≡ v % 10 ^ 9
    → nanos_of days (c / 3600) (c / 60 % 60) (c % 60) + n ≡ v
moment_parts v days c n a b e = omega arith

-- the parts of the moment v: its date, the second of the day and the nanosecond of the second
pub record IsMoment (v y m d c n : ℕ) : Type 0 where
  pub year_below : y < 10000
  pub date : is_day y m d ≡ true
  pub days : day_number y m d ≡ v / 10 ^ 9 / 86400
  pub second : c ≡ v / 10 ^ 9 % 86400
  pub nanosecond : n ≡ v % 10 ^ 9

module _ (v y m d c n : ℕ) (is : IsMoment v y m d c n) where
  -- the text that the function produces
  pub spelled : (a p p0 : List ℕ) (j e : ℕ) → a ≡ stamp y m d (c / 3600) (c / 60 % 60) (c % 60) → p ≡ p0
      → IsKept n p0 j e
      → Names (take (e + 1) (set (put_mid 15 9 (a ++ dots) p) e 90)) v
  spelled a p p0 j e ea same kept =
      let s : List ℕ = stamp y m d (c / 3600) (c / 60 % 60) (c % 60) in
      let P : List ℕ → List ℕ → ℕ → Type 0 = λ b q k. Names (take (e + 1) (set (put_mid 15 9 (b ++ dots) q) e 90)) k in
      let ok = stamp_from y m d c is.year_below is.date (omega (arith, is.second)) in
      let small : n < 10 ^ 9 = omega (arith, is.nanosecond) in
      let done = finished y m d (c / 3600) (c / 60 % 60) (c % 60) n ok small j e
      (subst (λ (q : List ℕ). IsKept n q j e) kept.are kept) in
      subst (λ (b : List ℕ). P b p v) (sym ea) (subst (λ (q : List ℕ). P s q v) (sym (same ∙ kept.are))
      (subst (P s (places 9 n)) (moment_parts v (day_number y m d) c n is.days is.second is.nanosecond) done))
