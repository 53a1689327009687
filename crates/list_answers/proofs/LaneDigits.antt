-- Hexadecimal digits in lanes of vectors.
use Rattle.std.proofs.Common.{◌≡◌, ℕ, zero, suc, ◌+◌, ◌-◌, ◌*◌, ◌/◌, ◌%◌, ◌^◌, ◌<◌, ◌≤◌, Bool, true, false, cond, eqb}
use Rattle.std.proofs.Common.{ltb, List, [], ◌∷◌, ◌++◌, length, map}
use Rattle.std.proofs.Common.{replicate, get_or, Option, Some, None, unwrap_or, min, refl, sym, ap, subst, ◌∙◌, inl}
use Rattle.std.proofs.Common.{inr, arith, Fits, w8, ltb-true, ltb-false}
use Rattle.std.specs.Prelude.{◌==◌, bit_or}
use Rattle.std.specs.List.{range_with_len}
use Rattle.std.specs.Simd.Lanes.{zip2, sel_l, mask_l, top, chunk, number_l, digits_l, Each1}
use Rattle.std.proofs.lemmas.Bool.{cases_lt, eqb-true}
use Rattle.std.proofs.lemmas.List.{length-map, get_or-map, get_or_append_left, get_or-append_right, ext_get_or}
use Rattle.std.proofs.lemmas.List.FromFn.{get_or-map-range_with_len}
use Rattle.std.proofs.lemmas.Simd.{length-zip2, length-sel_l, get_or-zip2, get_or-replicate, get_or-chunk, mask_l-mod}
use Rattle.std.proofs.lemmas.Simd.{Each1-get_or, Each1-from_get_or, Each1-zip2, Each2-all}
use Rattle.std.proofs.lemmas.Simd.{get_or_wider, get_or_narrower}
use Rattle.hex.specs.Hex.{hex_digit_value}
use Rattle.list_answers.specs.DigitLanes.{value_or_255, octets_of, AreBelow16, AreValues, ArePairs}
use Rattle.list_answers.proofs.Tables.{right_there}

-- ---- the value of one lane

abbrev smaller : ℕ → ℕ → ℕ
smaller a b = cond (top 7 (cond (ltb a b) 255 0)) a b

-- six less, or 0
abbrev six_less : ℕ → ℕ
six_less x = (cond (top 7 (cond (ltb x 6) 255 0)) 6 x + (256 - 6)) % 256

abbrev number : ℕ → ℕ
number x = (six_less ((x + 198) % 256) + 16) % 256

abbrev letter : ℕ → ℕ
letter x = (smaller ((bit_or x 32 + 159) % 256) 245 + 10) % 256

abbrev pub lane : ℕ → ℕ
lane x = smaller (number x) (letter x)

abbrev right_at : ℕ → Bool
right_at c = min (lane c) 16 == min (value_or_255 c) 16

-- the values are the same, or both are 16 or more
pub lane_is : (c : ℕ) → c < 256 → min (lane c) 16 ≡ min (value_or_255 c) 16
lane_is c lt = eqb-true _ _ (right_there right_at 256 c refl lt)

-- ---- sixteen lanes

abbrev add : ℕ → ℕ → ℕ
add a b = (a + b) % 256

abbrev less : ℕ → ℕ → ℕ
less a b = cond (ltb a b) 255 0

abbrev minus : ℕ → ℕ → ℕ
minus a b = (a + (256 - b)) % 256

abbrev lower : List ℕ → List ℕ → List ℕ
lower xs ys = sel_l (map (top 7) (zip2 less xs ys)) xs ys

abbrev higher : List ℕ → List ℕ → List ℕ
higher xs ys = sel_l (map (top 7) (zip2 less xs ys)) ys xs

abbrev to_nine : ℕ → List ℕ → List ℕ
to_nine n xs = zip2 add xs (replicate n 198)

abbrev numbers : ℕ → List ℕ → List ℕ
numbers n xs = zip2 add (zip2 minus (higher (to_nine n xs) (replicate n 6)) (replicate n 6)) (replicate n 16)

abbrev from_a : ℕ → List ℕ → List ℕ
from_a n xs = zip2 add (zip2 bit_or xs (replicate n 32)) (replicate n 159)

abbrev letters : ℕ → List ℕ → List ℕ
letters n xs = zip2 add (lower (from_a n xs) (replicate n 245)) (replicate n 10)

abbrev lanes : ℕ → List ℕ → List ℕ
lanes n xs = lower (numbers n xs) (letters n xs)

lanes_are : (n : ℕ) (xs : List ℕ) → length xs ≡ n → lanes n xs ≡ map lane xs
lanes_are n [] e = refl
lanes_are zero (x ∷ xs) e = absurd (omega arith)
lanes_are (suc n) (x ∷ xs) e = λ i. lane x ∷ lanes_are n xs (omega arith) i

pub values_are : (octets : List ℕ) → length octets ≡ 16 → Each1 (Fits w8) octets → AreValues octets (lanes 16 octets)
values_are octets long fits k lt =
    let there : get_or (lanes 16 octets) k 0 ≡ lane (get_or octets k 0)
    = ap (λ (l : List ℕ). get_or l k 0) (lanes_are 16 octets long) ∙ get_or-map lane octets k 0 0 (omega arith) in
    let fit = Each1-get_or (Fits w8) octets k 0 (omega arith) fits in
    ap (λ (v : ℕ). min v 16) there ∙ lane_is (get_or octets k 0) fit.fits

pub values_long : (octets : List ℕ) → length octets ≡ 16 → length (lanes 16 octets) ≡ 16
values_long octets long = ap length (lanes_are 16 octets long) ∙ length-map octets lane ∙ long

-- ---- none is 16 or more

not_over : (x : ℕ) → ◌≡◌ {A = ℕ} (cond (top 7 (less 15 x)) 1 0) 0 → x < 16
not_over x = go (ltb 15 x) refl
  where
    go : (t : Bool) → ltb 15 x ≡ t → ◌≡◌ {A = ℕ} (cond (top 7 (cond t 255 0)) 1 0) 0 → x < 16
    go true e h = absurd (omega arith)
    go false e h = let l = ltb-false 15 x e in omega arith

neither_over : (x y : ℕ) → ◌≡◌ {A = ℕ} (cond (top 7 (less 15 (cond (top 7 (less x y)) y x))) 1 0) 0
    → (x < 16) × (y < 16)
neither_over x y = go (ltb x y) refl
  where
    go : (t : Bool) → ltb x y ≡ t → ◌≡◌ {A = ℕ} (cond (top 7 (less 15 (cond (top 7 (cond t 255 0)) y x))) 1 0) 0
        → (x < 16) × (y < 16)
    go true e h = let l = ltb-true x y e in let b = not_over y h in (omega arith, b)
    go false e h = let l = ltb-false x y e in let b = not_over x h in (b, omega arith)

none_set : (n : ℕ) (xs ys : List ℕ) → length xs ≡ n → length ys ≡ n
    → mask_l (map (top 7) (zip2 less (replicate n 15) (higher xs ys))) ≡ 0
    → (k : ℕ) → k < n → (get_or xs k 0 < 16) × (get_or ys k 0 < 16)
none_set n [] ys p q h k lt = absurd (omega arith)
none_set n (x ∷ xs) [] p q h k lt = absurd (omega arith)
none_set zero (x ∷ xs) (y ∷ ys) p q h k lt = absurd (omega arith)
none_set (suc n) (x ∷ xs) (y ∷ ys) p q h zero lt = neither_over x y (omega arith)
none_set (suc n) (x ∷ xs) (y ∷ ys) p q h (suc k) lt =
    none_set n xs ys (omega arith) (omega arith) (omega arith) k (omega arith)

-- where no bit of the mask is set, all values are below 16
pub all_digits : (first second : List ℕ) → length first ≡ 16 → length second ≡ 16
    → eqb (mask_l (map (top 7) (zip2 less (replicate 16 15) (higher first second))) % 2 ^ 64) 0 ≡ true
    → AreBelow16 first × AreBelow16 second
all_digits first second p q h =
    let tops = map (top 7) (zip2 less first second) in
    let highest = higher first second in
    let long_tops : length tops ≡ 16 = length-map _ (top 7) ∙ length-zip2 less first second (p ∙ sym q) ∙ p in
    let long : length highest ≡ 16 = length-sel_l tops second first (long_tops ∙ sym q) (long_tops ∙ sym p)
    ∙ long_tops in
    let bits : length (map (top 7) (zip2 less (replicate 16 15) highest)) ≡ 16
    = length-map _ (top 7) ∙ length-zip2 less (replicate 16 15) highest (sym long) in
    let none = none_set 16 first second p q
    (sym (mask_l-mod (map (top 7) (zip2 less (replicate 16 15) highest)) 64 (omega arith)) ∙ eqb-true _ 0 h) in
    (λ k lt. (none k lt).0, λ k lt. (none k lt).1)

-- ---- pairs of values

abbrev times : ℕ → ℕ → ℕ
times a b = a * b % 65536

-- lanes of two octets of sixteen of one
abbrev wide : List ℕ → List ℕ
wide values = digits_l 65536 8 (number_l 256 values)

abbrev products : List ℕ → List ℕ
products values = zip2 times (wide values) (replicate 8 4097)

cut_below : (n : ℕ) → n % 65536 < 65536
cut_below n = omega arith

all_below : (values : List ℕ) → Each1 (λ x. x < 65536) (products values)
all_below values = Each1-zip2 times (λ x. x < 65536) (wide values) (replicate 8 4097)
    (Each2-all (λ a b. times a b < 65536) (λ a b. cut_below (a * b)) (wide values) (replicate 8 4097))

two : (i : ℕ) (xs : List ℕ) → i + 2 ≤ length xs → chunk i 2 xs ≡ get_or xs i 0 ∷ get_or xs (i + 1) 0 ∷ []
two i [] h = absurd (omega arith)
two zero (x ∷ []) h = absurd (omega arith)
two zero (x ∷ y ∷ xs) h = refl
two (suc i) (x ∷ xs) h =
    let next : suc (i + 1) ≡ suc i + 1 = omega arith in
    two i xs (omega arith) ∙ ap (λ (n : ℕ). get_or xs i 0 ∷ get_or (x ∷ xs) n 0 ∷ []) next

joined_pair : (h l : ℕ) → h < 16 → l < 16 → (h + 256 * (l + 256 * 0)) * 4097 % 65536 / 256 % 256 ≡ h * 16 + l
joined_pair h l p q = omega arith

pub joined_are : (values : List ℕ) → length values ≡ 16 → AreBelow16 values → (j : ℕ) → j < 8
    → get_or (digits_l 256 16 (number_l 65536 (products values))) (2 * j + 1) 0
    ≡ get_or values (2 * j) 0 * 16 + get_or values (2 * j + 1) 0
joined_are values long below j lt =
    let octets : Each1 (λ x. x < 256) values =
    Each1-from_get_or (λ x. x < 256) values 0 (λ i h. let b = below i (omega arith) in omega arith) in
    let there : get_or (wide values) j 0 ≡ get_or values (2 * j) 0 + 256 * (get_or values (2 * j + 1) 0 + 256 * 0)
    = get_or_wider 256 2 65536 8 values j refl octets lt ∙ ap (number_l 256) (two (2 * j) values (omega arith)) in
    let product : get_or (products values) j 0 ≡ times (get_or (wide values) j 0) 4097
    = get_or-zip2 times (wide values) (replicate 8 4097) j 0 0 0 lt lt
    ∙ ap (times (get_or (wide values) j 0)) (get_or-replicate 8 j 4097 0 lt) in
    get_or_narrower 65536 2 256 16 (products values) j 1 refl (all_below values) (omega arith) (omega arith)
    ∙ ap (λ (n : ℕ). n / 256 % 256) (product ∙ ap (λ (n : ℕ). times n 4097) there)
    ∙ joined_pair (get_or values (2 * j) 0) (get_or values (2 * j + 1) 0) (below (2 * j) (omega arith))
    (below (2 * j + 1) (omega arith))

both_below : (first second : List ℕ) → length first ≡ 16 → AreBelow16 first → AreBelow16 second → (j : ℕ) → j < 32
    → get_or (first ++ second) j 0 < 16
both_below first second long f s j lt = elim (cases_lt j 16) [
  | inl l ↦ subst (λ (v : ℕ). v < 16) (sym (get_or_append_left first second 0 j (omega arith))) (f j l)
  | inr g ↦ subst (λ (v : ℕ). v < 16) (sym (get_or-append_right first second 16 j 0 long g)) (s (j - 16) (omega arith))
]

-- the octets of the odd places of two vectors of sixteen
odds : (first second : List ℕ) (k : ℕ) → k < 16
    → get_or (map (λ n. get_or (first ++ second) (2 * n + 1) 0) (range_with_len 0 16)) k 0
    ≡ get_or (first ++ second) (2 * k + 1) 0
odds first second k lt =
    get_or-map-range_with_len (λ n. get_or (first ++ second) (2 * n + 1) 0) 0 16 k k 0 lt (omega arith)

pub octets_are : (first second one other : List ℕ) → length first ≡ 16 → length one ≡ 16 → AreBelow16 first
    → AreBelow16 second
    → ((j : ℕ) → j < 8 → get_or one (2 * j + 1) 0 ≡ get_or first (2 * j) 0 * 16 + get_or first (2 * j + 1) 0)
    → ((j : ℕ) → j < 8 → get_or other (2 * j + 1) 0 ≡ get_or second (2 * j) 0 * 16 + get_or second (2 * j + 1) 0)
    → map (λ n. get_or (one ++ other) (2 * n + 1) 0) (range_with_len 0 16) ≡ octets_of (first ++ second)
octets_are first second one other long p f s low high = ext_get_or 0 _ _ refl (λ k h.
    let lt : k < 16 = h in
    let first_below = both_below first second long f s (2 * k) (omega arith) in
    let second_below = both_below first second long f s (2 * k + 1) (omega arith) in
    let sum : get_or (first ++ second) (2 * k) 0 * 16 + get_or (first ++ second) (2 * k + 1) 0
    ≡ (get_or (first ++ second) (2 * k) 0 * 16 % 256 + get_or (first ++ second) (2 * k + 1) 0) % 256 = omega arith in
    odds one other k lt ∙ pair_there k lt ∙ sum
    ∙ sym (get_or-map-range_with_len (λ n. (get_or (first ++ second) (2 * n) 0 * 16 % 256
    + get_or (first ++ second) (2 * n + 1) 0) % 256) 0 16 k k 0 lt (omega arith)))
  where
    pair_there : (k : ℕ) → k < 16
        → get_or (one ++ other) (2 * k + 1) 0
        ≡ get_or (first ++ second) (2 * k) 0 * 16 + get_or (first ++ second) (2 * k + 1) 0
    pair_there k lt = elim (cases_lt k 8) [
      | inl l ↦
          let a = get_or_append_left first second 0 (2 * k) (omega arith) in
          let b = get_or_append_left first second 0 (2 * k + 1) (omega arith) in
          get_or_append_left one other 0 (2 * k + 1) (omega arith) ∙ low k l ∙ (λ i. sym a i * 16 + sym b i)
      | inr g ↦
          let places : 2 * k - 16 ≡ 2 * (k - 8) = omega arith in
          let next : 2 * k + 1 - 16 ≡ 2 * (k - 8) + 1 = omega arith in
          let a = get_or-append_right first second 16 (2 * k) 0 long (omega arith)
          ∙ ap (λ (n : ℕ). get_or second n 0) places in
          let b = get_or-append_right first second 16 (2 * k + 1) 0 long (omega arith)
          ∙ ap (λ (n : ℕ). get_or second n 0) next in
          get_or-append_right one other 16 (2 * k + 1) 0 p (omega arith) ∙ ap (λ (n : ℕ). get_or other n 0) next
          ∙ high (k - 8) (omega arith) ∙ (λ i. sym a i * 16 + sym b i)
    ]

-- ---- thirty-two digits

-- a value that is below 16 is that of a digit
some_below : (c v : ℕ) → v < 16 → min v 16 ≡ min (value_or_255 c) 16 → hex_digit_value c ≡ Some v
some_below c v lt = by_cases (hex_digit_value c)
  where
    by_cases : (o : Option ℕ) → min v 16 ≡ min (unwrap_or o 255) 16 → o ≡ Some v
    by_cases (Some w) e = let n : w ≡ v = omega arith in ap Some n
    by_cases None e = absurd (omega arith)

digit_in : (text values : List ℕ) (at : ℕ) → AreValues (chunk at 16 text) values → AreBelow16 values → (j : ℕ) → j < 16
    → hex_digit_value (get_or text (at + j) 0) ≡ Some (get_or values j 0)
digit_in text values at is below j lt = ap hex_digit_value (sym (get_or-chunk at 16 text j 0 lt))
    ∙ some_below (get_or (chunk at 16 text) j 0) (get_or values j 0) (below j lt) (is j lt)

digit_there : (text first second : List ℕ) (at : ℕ) → AreValues (chunk at 16 text) first
    → AreValues (chunk (at + 16) 16 text) second
    → length first ≡ 16 → AreBelow16 first → AreBelow16 second → (j : ℕ) → j < 32
    → hex_digit_value (get_or text (at + j) 0) ≡ Some (get_or (first ++ second) j 0)
digit_there text first second at p q long f s j lt = elim (cases_lt j 16) [
  | inl l ↦ digit_in text first at p f j l ∙ ap Some (sym (get_or_append_left first second 0 j (omega arith)))
  | inr g ↦
      let place : at + j ≡ at + 16 + (j - 16) = omega arith in
      ap (λ (n : ℕ). hex_digit_value (get_or text n 0)) place
      ∙ digit_in text second (at + 16) q s (j - 16) (omega arith)
      ∙ ap Some (sym (get_or-append_right first second 16 j 0 long g))
]

pub pairs_are : (text : List ℕ) (at : ℕ) (first second octets : List ℕ) → AreValues (chunk at 16 text) first
    → AreValues (chunk (at + 16) 16 text) second
    → length first ≡ 16 → AreBelow16 first → AreBelow16 second → octets ≡ octets_of (first ++ second)
    → ArePairs text at octets
pairs_are text at first second octets p q long f s is = record {
  each = λ k lt.
      let high = get_or (first ++ second) (2 * k) 0 in
      let low = get_or (first ++ second) (2 * k + 1) 0 in
      let first_below = both_below first second long f s (2 * k) (omega arith) in
      let second_below = both_below first second long f s (2 * k + 1) (omega arith) in
      let next : at + 2 * k + 1 ≡ at + (2 * k + 1) = omega arith in
      let second_digit = ap (λ (n : ℕ). hex_digit_value (get_or text n 0)) next
      ∙ digit_there text first second at p q long f s (2 * k + 1) (omega arith) in
      let sum : (high * 16 % 256 + low) % 256 ≡ high * 16 + low = omega arith in
      let there : get_or octets k 0 ≡ (high * 16 % 256 + low) % 256
      = ap (λ (o : List ℕ). get_or o k 0) is
      ∙ get_or-map-range_with_len
      (λ n. (get_or (first ++ second) (2 * n) 0 * 16 % 256 + get_or (first ++ second) (2 * n + 1) 0) % 256)
      0 16 k k 0 lt (omega arith) in
      (high, (low, digit_there text first second at p q long f s (2 * k) (omega arith), second_digit, there ∙ sum));
  all = ap length is;
}
