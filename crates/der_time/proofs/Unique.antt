-- Two GeneralizedTimes that denote one moment are the same text.
use Rattle.std.proofs.Common.{◌≡◌, ℕ, zero, suc, ◌+◌, ◌-◌, ◌*◌, ◌^◌, ◌<◌, ◌≤◌, true, ◌&&◌, leb, List, [], ◌∷◌, ◌++◌}
use Rattle.std.proofs.Common.{length, get_or, take, drop, refl, sym, ap}
use Rattle.std.proofs.Common.{subst, ◌∙◌, arith, inl, inr}
use Rattle.std.proofs.Math.Nat.{mul-le-mul_right}
use Rattle.std.proofs.lemmas.Nat.{same_from_place}
use Rattle.std.proofs.lemmas.Bool.{and_parts, or_cases, leb-true}
use Rattle.std.proofs.lemmas.List.{take_more, take_more_same, take_all, take-append-drop, length-take, get_or-take}
use Rattle.der_core.specs.Lists.{every, is_same}
use Rattle.der_core.specs.Times.{is_digit, pair, is_clock, is_fraction}
use Rattle.der_time.specs.Calendar.{day_number}
use Rattle.der_time.specs.Moments.{nanos_of, in_places, fraction_digits, generalized_moment, TextsAreUnique}
use Rattle.der_time.proofs.Civil.{same_date}
use Rattle.der_time.proofs.Places.{power_pos, in_places_below}
use Rattle.der_time.proofs.Texts.{digit_from, IsGeneralized, generalized_parts, digit_at, pair_below, same_from}
use Rattle.der_time.proofs.Texts.{no_fraction, fraction_is, fraction_of_digits}
use Rattle.der_time.proofs.Texts.{IsFraction, fraction_parts, year_below}

-- ---- digits that do not end in 0

abbrev EndsWell : List ℕ → Type 0
EndsWell ds = (n : ℕ) → n + 1 ≡ length ds → get_or ds n 0 ≡ 48 → ⊥

inner_end : (d : ℕ) (ds : List ℕ) → EndsWell (d ∷ ds) → EndsWell ds
inner_end d ds h n e z = h (suc n) (omega (arith, e)) z

-- their value is more than 0
positive : (k d : ℕ) (ds : List ℕ) → length (d ∷ ds) ≤ k → every is_digit (d ∷ ds) ≡ true → EndsWell (d ∷ ds)
    → 1 ≤ in_places k (d ∷ ds)
unfolding in_places
positive zero d ds l h w = absurd (omega (arith, l))
positive (suc k) d [] l h w =
    let g = digit_from d (and_parts (is_digit d) true h).0 in
    let some : 1 ≤ d - 48 = omega (arith, g.low, w 0 refl) in
    omega (arith, mul-le-mul_right (10 ^ k) some, power_pos k)
positive (suc k) d (e ∷ es) l h w =
    omega (
      arith,
      positive k e es (omega (arith, l)) (and_parts (is_digit d) (every is_digit (e ∷ es)) h).1
          (inner_end d (e ∷ es) w),
    )

same_places : (k : ℕ) (ds es : List ℕ) → length ds ≤ k → length es ≤ k → every is_digit ds ≡ true
    → every is_digit es ≡ true → EndsWell ds
    → EndsWell es → in_places k ds ≡ in_places k es → ds ≡ es
unfolding in_places
same_places zero [] [] l m g h v w e = refl
same_places zero (d ∷ ds) es l m g h v w e = absurd (omega (arith, l))
same_places zero [] (x ∷ es) l m g h v w e = absurd (omega (arith, m))
same_places (suc k) [] [] l m g h v w e = refl
same_places (suc k) [] (x ∷ es) l m g h v w e = absurd (omega (arith, e, positive (suc k) x es m h w))
same_places (suc k) (d ∷ ds) [] l m g h v w e = absurd (omega (arith, e, positive (suc k) d ds l g v))
same_places (suc k) (d ∷ ds) (x ∷ es) l m g h v w e =
    let p = and_parts (is_digit d) (every is_digit ds) g in
    let q = and_parts (is_digit x) (every is_digit es) h in
    let a = digit_from d p.0 in
    let b = digit_from x q.0 in
    let s = same_from_place (d - 48) (in_places k ds) (x - 48) (in_places k es) (10 ^ k) (in_places_below k ds p.1)
    (in_places_below k es q.1) e in
    let first : d ≡ x = omega (arith, s.0, a.low, b.low) in
    let others : ds ≡ es =
    same_places k ds es (omega (arith, l)) (omega (arith, m)) p.1 q.1 (inner_end d ds v) (inner_end x es w) s.1 in
    ap (λ (n : ℕ). n ∷ ds) first ∙ ap (λ (r : List ℕ). x ∷ r) others

-- ---- the tail of a text by the digits of its fraction

abbrev tail_by : List ℕ → List ℕ
tail_by [] = 90 ∷ []
tail_by (d ∷ ds) = 46 ∷ ((d ∷ ds) ++ 90 ∷ [])

record HasTail (r ds : List ℕ) : Type 0 where
  tail : r ≡ tail_by ds
  few : length ds ≤ 9
  digits : every is_digit ds ≡ true
  end : EndsWell ds

some_tail : (ds : List ℕ) → 1 ≤ length ds → 46 ∷ (ds ++ 90 ∷ []) ≡ tail_by ds
some_tail [] l = absurd (omega (arith, l))
some_tail (d ∷ ds) l = refl

front_and_last : (xs : List ℕ) (n : ℕ) → n + 1 ≡ length xs → xs ≡ take n xs ++ get_or xs n 0 ∷ []
front_and_last xs n e = sym (take_all (n + 1) xs (omega (arith, e))) ∙ take_more xs n 0 (omega (arith, e))

fraction_tail : (r : List ℕ) → IsFraction r → HasTail r (take (length r - 2) (drop 1 r))
fraction_tail [] f = absurd (omega (arith, f.long))
fraction_tail (x ∷ xs) f =
    let n : ℕ = length (x ∷ xs) - 2 in
    let ds : List ℕ = take n xs in
    let at : n + 1 ≡ length xs = omega (arith, f.long) in
    let size : length ds ≡ n = length-take n xs ∙ omega arith in
    let end_at : length (x ∷ xs) - 1 ≡ suc n = omega (arith, f.long) in
    let last : get_or xs n 0 ≡ 90 = ap (λ (k : ℕ). get_or (x ∷ xs) k 0) (sym end_at) ∙ f.end in
    let parts : xs ≡ ds ++ 90 ∷ [] = front_and_last xs n at ∙ ap (λ (y : ℕ). ds ++ y ∷ []) last in
    record {
      tail = ap (λ (y : ℕ). y ∷ xs) f.point ∙ ap (λ (v : List ℕ). 46 ∷ v) parts ∙ some_tail ds (omega (arith, f.long));
      few = omega (arith, f.short);
      digits = f.digits;
      end = λ k e z.
          let ke : k + 1 ≡ n = e ∙ size in
          let inside : k < n = omega arith in
          let up : n ≡ suc k = omega arith in
          f.last (ap (λ (j : ℕ). get_or (x ∷ xs) j 0) up ∙ sym (get_or-take n xs k 0 inside) ∙ z);
    }

has_tail : (b : List ℕ) → IsGeneralized b → HasTail (drop 14 b) (fraction_digits b)
has_tail b g =
    elim (or_cases (is_same (drop 14 b) (90 ∷ [])) (is_fraction (drop 14 b)) g.tail) [
      | inl e ↦
          let is : drop 14 b ≡ 90 ∷ [] = same_from (drop 14 b) (90 ∷ []) e in
          subst (λ (ds : List ℕ). HasTail (drop 14 b) ds) (sym (no_fraction b is)) (record {
            tail = is;
            few = omega arith;
            digits = refl;
            end = λ n z y. omega (arith, z);
          })
      | inr e ↦ subst (λ (ds : List ℕ). HasTail (drop 14 b) ds) (sym (fraction_is b))
          (fraction_tail (drop 14 b) (fraction_parts (drop 14 b) e))
    ]

-- ---- the front of a text by its numbers

record IsClock (hour minute second : ℕ) : Type 0 where
  hour_high : hour ≤ 23
  minute_high : minute ≤ 59
  second_high : second ≤ 59

clock_parts : (h i s : ℕ) → is_clock h i s ≡ true → IsClock h i s
clock_parts h i s e =
    let p = and_parts (leb h 23) (leb i 59 && leb s 59) e in
    let q = and_parts (leb i 59) (leb s 59) p.1 in
    record { hour_high = leb-true h 23 p.0; minute_high = leb-true i 59 q.0; second_high = leb-true s 59 q.1 }

-- the numbers of a text: its day, its clock and its nanosecond
record Parts : Type 0 where
  days : ℕ
  hour : ℕ
  minute : ℕ
  second : ℕ
  nanos : ℕ

record AreParts (p : Parts) : Type 0 where
  clock : IsClock p.hour p.minute p.second
  nanos_below : p.nanos < 10 ^ 9

record SameParts (p q : Parts) : Type 0 where
  days : p.days ≡ q.days
  hours : p.hour ≡ q.hour
  minutes : p.minute ≡ q.minute
  seconds : p.second ≡ q.second
  nanos : p.nanos ≡ q.nanos

abbrev moment_of : Parts → ℕ
moment_of p = nanos_of p.days p.hour p.minute p.second + p.nanos

same_parts : (p q : Parts) → AreParts p → AreParts q → moment_of p ≡ moment_of q → SameParts p q
same_parts p q a b e =
    let n = same_from_place (86400 * p.days + 3600 * p.hour + 60 * p.minute + p.second) p.nanos
    (86400 * q.days + 3600 * q.hour + 60 * q.minute + q.second) q.nanos (10 ^ 9) a.nanos_below b.nanos_below
    (omega (arith, e)) in
    let d = same_from_place p.days (3600 * p.hour + 60 * p.minute + p.second) q.days
    (3600 * q.hour + 60 * q.minute + q.second) 86400
    (omega (arith, a.clock.hour_high, a.clock.minute_high, a.clock.second_high))
    (omega (arith, b.clock.hour_high, b.clock.minute_high, b.clock.second_high)) (omega (arith, n.0)) in
    let h = same_from_place p.hour (60 * p.minute + p.second) q.hour (60 * q.minute + q.second) 3600
    (omega (arith, a.clock.minute_high, a.clock.second_high)) (omega (arith, b.clock.minute_high, b.clock.second_high))
    (omega (arith, d.1)) in
    let i = same_from_place p.minute p.second q.minute q.second 60 (omega (arith, a.clock.second_high))
    (omega (arith, b.clock.second_high))
    (omega (arith, h.1)) in
    record { days = d.0; hours = h.0; minutes = i.0; seconds = i.1; nanos = n.1 }

-- the numbers of a text, by the places of its digits
abbrev parts_of : List ℕ → Parts
parts_of a = record {
  days = day_number (100 * pair a 0 + pair a 2) (pair a 4) (pair a 6);
  hour = pair a 8;
  minute = pair a 10;
  second = pair a 12;
  nanos = in_places 9 (fraction_digits a);
}

are_parts : (a : List ℕ) → IsGeneralized a → AreParts (parts_of a)
are_parts a g = record {
  clock = clock_parts (pair a 8) (pair a 10) (pair a 12) g.clock;
  nanos_below = in_places_below 9 (fraction_digits a) (fraction_of_digits a g);
}

-- two more octets are the same if the numbers that they make are equal
two_more : (a b : List ℕ) (i : ℕ) → IsGeneralized a → IsGeneralized b → i + 1 < 14 → pair a i ≡ pair b i
    → take i a ≡ take i b
    → take (i + 1 + 1) a ≡ take (i + 1 + 1) b
two_more a b i g h l e same =
    let a0 = digit_at a i g (omega arith) in
    let a1 = digit_at a (i + 1) g l in
    let b0 = digit_at b i h (omega arith) in
    let b1 = digit_at b (i + 1) h l in
    let p : get_or a i 0 ≡ get_or b i 0 = omega (arith, e, a0, a1, b0, b1) in
    let q : get_or a (i + 1) 0 ≡ get_or b (i + 1) 0 = omega (arith, e, a0, a1, b0, b1) in
    let one = take_more_same a b i 0 (omega (arith, g.long)) (omega (arith, h.long)) same p in
    take_more_same a b (i + 1) 0 (omega (arith, g.long)) (omega (arith, h.long)) one q

pub texts_are_unique : TextsAreUnique
unfolding generalized_moment
texts_are_unique a b ta tb e =
    let g = generalized_parts a ta in
    let h = generalized_parts b tb in
    let s = same_parts (parts_of a) (parts_of b) (are_parts a g) (are_parts b h) e in
    let d = same_date (100 * pair a 0 + pair a 2) (100 * pair b 0 + pair b 2) (pair a 4) (pair b 4) (pair a 6)
    (pair b 6) (year_below a g)
    (year_below b h) g.day h.day s.days in
    let y = same_from_place (pair a 0) (pair a 2) (pair b 0) (pair b 2) 100 (pair_below a 2 g (omega arith))
    (pair_below b 2 h (omega arith)) (omega (arith, d.0)) in
    let t2 = two_more a b 0 g h (omega arith) y.0 refl in
    let t4 = two_more a b 2 g h (omega arith) y.1 t2 in
    let t6 = two_more a b 4 g h (omega arith) d.1 t4 in
    let t8 = two_more a b 6 g h (omega arith) d.2 t6 in
    let t10 = two_more a b 8 g h (omega arith) s.hours t8 in
    let t12 = two_more a b 10 g h (omega arith) s.minutes t10 in
    let t14 : take 14 a ≡ take 14 b = two_more a b 12 g h (omega arith) s.seconds t12 in
    let p = has_tail a g in
    let q = has_tail b h in
    let ds : fraction_digits a ≡ fraction_digits b =
    same_places 9 (fraction_digits a) (fraction_digits b) p.few q.few p.digits q.digits p.end q.end s.nanos in
    let tails : drop 14 a ≡ drop 14 b = p.tail ∙ ap tail_by ds ∙ sym q.tail in
    sym (take-append-drop 14 a) ∙ ap (λ (r : List ℕ). r ++ drop 14 a) t14 ∙ ap (λ (r : List ℕ). take 14 b ++ r) tails
    ∙ take-append-drop 14 b
