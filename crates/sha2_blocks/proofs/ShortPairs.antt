-- The rounds of two hash values at once: each lane holds a word twice.
use Rattle.std.proofs.Common.{◌≡◌, ℕ, ◌+◌, ◌*◌, ◌/◌, ◌%◌, ◌^◌, ◌<◌, List, [], ◌∷◌, length, map, slice_index}
use Rattle.std.proofs.Common.{bit_and, bit_or, bit_xor, refl, sym, ap, ◌∙◌, arith}
use Rattle.std.proofs.lemmas.Nat.{and_mask, or_comm, or_shifted, xor_mod}
use Rattle.std.specs.Simd.Lanes.{zip2}
use Rattle.sha2.specs.Sha256.{add32, big_sigma0, big_sigma1, ch, maj, temp1, temp2}
use Rattle.sha2.specs.Sha512.{add64}
use Rattle.sha2_blocks.specs.Pairs.{HoldTwice, both_at, low_words, two_lanes}
use Rattle.sha2_blocks.proofs.Bits.{turned, turned_is}
use Rattle.sha2_blocks.proofs.Lanes.{low, low_lt, of_two}

-- ---- one lane

abbrev twice : ℕ → ℕ
twice x = x * 2 ^ 32 + x

low_twice : (x : ℕ) → x < 2 ^ 32 → low (twice x) ≡ x
low_twice x fits = omega arith

doubled_lane : (x : ℕ) → bit_or (bit_and x 0xffffffff) (x * 2 ^ 32 % 2 ^ 64) ≡ twice (low x)
doubled_lane x =
    let front : x * 2 ^ 32 % 2 ^ 64 ≡ low x * 2 ^ 32 = omega arith in
    (λ i. bit_or (and_mask x 32 i) (front i)) ∙ or_comm (low x) (low x * 2 ^ 32)
    ∙ or_shifted (low x) 32 (low x) (low_lt x)

-- the low half of a shift is the word rotated
by2 : (x : ℕ) → x < 2 ^ 32 → low (twice x / 2 ^ 2) ≡ turned 32 x 2
by2 x fits = rw (turned_is 32 x 30 2 (omega arith) fits) (omega arith)

by13 : (x : ℕ) → x < 2 ^ 32 → low (twice x / 2 ^ 13) ≡ turned 32 x 13
by13 x fits = rw (turned_is 32 x 19 13 (omega arith) fits) (omega arith)

by22 : (x : ℕ) → x < 2 ^ 32 → low (twice x / 2 ^ 22) ≡ turned 32 x 22
by22 x fits = rw (turned_is 32 x 10 22 (omega arith) fits) (omega arith)

by6 : (x : ℕ) → x < 2 ^ 32 → low (twice x / 2 ^ 6) ≡ turned 32 x 6
by6 x fits = rw (turned_is 32 x 26 6 (omega arith) fits) (omega arith)

by11 : (x : ℕ) → x < 2 ^ 32 → low (twice x / 2 ^ 11) ≡ turned 32 x 11
by11 x fits = rw (turned_is 32 x 21 11 (omega arith) fits) (omega arith)

by25 : (x : ℕ) → x < 2 ^ 32 → low (twice x / 2 ^ 25) ≡ turned 32 x 25
by25 x fits = rw (turned_is 32 x 7 25 (omega arith) fits) (omega arith)

-- three shifts of a lane that holds its word twice
abbrev three : ℕ → ℕ → ℕ → ℕ → ℕ
three x j k l = bit_xor (bit_xor (x / 2 ^ j) (x / 2 ^ k)) (x / 2 ^ l)

low_three : (x j k l : ℕ)
    → low (three x j k l) ≡ bit_xor (bit_xor (low (x / 2 ^ j)) (low (x / 2 ^ k))) (low (x / 2 ^ l))
low_three x j k l =
    xor_mod (bit_xor (x / 2 ^ j) (x / 2 ^ k)) (x / 2 ^ l) 32
    ∙ (λ i. bit_xor (xor_mod (x / 2 ^ j) (x / 2 ^ k) 32 i) (low (x / 2 ^ l)))

sigma0_lane : (x : ℕ) → x ≡ twice (low x) → low (three x 2 13 22) ≡ big_sigma0 (low x)
sigma0_lane x held =
    let w : ℕ = low x in
    (λ i. low (three (held i) 2 13 22)) ∙ low_three (twice w) 2 13 22
    ∙ (λ i. bit_xor (bit_xor (by2 w (low_lt x) i) (by13 w (low_lt x) i)) (by22 w (low_lt x) i))

sigma1_lane : (x : ℕ) → x ≡ twice (low x) → low (three x 6 11 25) ≡ big_sigma1 (low x)
sigma1_lane x held =
    let w : ℕ = low x in
    (λ i. low (three (held i) 6 11 25)) ∙ low_three (twice w) 6 11 25
    ∙ (λ i. bit_xor (bit_xor (by6 w (low_lt x) i) (by11 w (low_lt x) i)) (by25 w (low_lt x) i))

sum_lane : (x y : ℕ) → low (add64 x y) ≡ add32 (low x) (low y)
sum_lane x y = omega arith

-- ---- two lanes

abbrev right_lanes : List ℕ → ℕ → List ℕ
right_lanes x n = zip2 (λ (y k : ℕ). y / 2 ^ k) x (n ∷ n ∷ [])

abbrev three_lanes : List ℕ → ℕ → ℕ → ℕ → List ℕ
three_lanes x j k l = zip2 bit_xor (zip2 bit_xor (right_lanes x j) (right_lanes x k)) (right_lanes x l)

abbrev doubled : List ℕ → List ℕ
doubled x = zip2 bit_or (zip2 bit_and x (0xffffffff ∷ 0xffffffff ∷ []))
    (zip2 (λ (y k : ℕ). y * 2 ^ k % 2 ^ 64) x (32 ∷ 32 ∷ []))

pub doubled_lanes : (x : List ℕ) → length x ≡ 2 → HoldTwice (doubled x) (low_words x)
doubled_lanes x h = of_two (λ y. HoldTwice (doubled y) (low_words y)) (λ a b. record {
  low = λ i. (ap low (doubled_lane a) ∙ low_twice (low a) (low_lt a)) i
      ∷ (ap low (doubled_lane b) ∙ low_twice (low b) (low_lt b)) i ∷ [];
  halves = λ i. doubled_lane a i ∷ doubled_lane b i ∷ [];
}) x h

-- the halves of each lane are its low word
twice_first : (a b : ℕ) (words : List ℕ) → HoldTwice (a ∷ b ∷ []) words → a ≡ twice (low a)
twice_first a b words held =
    ap (λ (x : List ℕ). slice_index x 0) held.halves ∙ ap (λ (x : List ℕ). slice_index (map twice x) 0) (sym held.low)

twice_second : (a b : ℕ) (words : List ℕ) → HoldTwice (a ∷ b ∷ []) words → b ≡ twice (low b)
twice_second a b words held =
    ap (λ (x : List ℕ). slice_index x 1) held.halves ∙ ap (λ (x : List ℕ). slice_index (map twice x) 1) (sym held.low)

pub sigma0_lanes : (x words : List ℕ) → length x ≡ 2 → HoldTwice x words
    → low_words (three_lanes x 2 13 22) ≡ map big_sigma0 words
sigma0_lanes x words h =
    of_two (λ y. HoldTwice y words → low_words (three_lanes y 2 13 22) ≡ map big_sigma0 words) (λ a b held.
    (λ i. sigma0_lane a (twice_first a b words held) i ∷ sigma0_lane b (twice_second a b words held) i ∷ [])
    ∙ ap (map big_sigma0) held.low) x h

pub sigma1_lanes : (x words : List ℕ) → length x ≡ 2 → HoldTwice x words
    → low_words (three_lanes x 6 11 25) ≡ map big_sigma1 words
sigma1_lanes x words h =
    of_two (λ y. HoldTwice y words → low_words (three_lanes y 6 11 25) ≡ map big_sigma1 words) (λ a b held.
    (λ i. sigma1_lane a (twice_first a b words held) i ∷ sigma1_lane b (twice_second a b words held) i ∷ [])
    ∙ ap (map big_sigma1) held.low) x h

low_sum : (x y : List ℕ) → low_words (zip2 add64 x y) ≡ zip2 add32 (low_words x) (low_words y)
low_sum [] y = refl
low_sum (a ∷ x) [] = refl
low_sum (a ∷ x) (b ∷ y) = λ i. sum_lane a b i ∷ low_sum x y i

-- ---- a round of both

abbrev both : ℕ → ℕ → List ℕ
both a b = a ∷ b ∷ []

-- T 1 of both, with the sum of a constant and a word
pub temp1_is : (x y h sigma choice : List ℕ) (s k w : ℕ) → s ≡ add32 k w → low_words h ≡ both_at x y 7
    → low_words sigma ≡ map big_sigma1 (both_at x y 4)
    → low_words choice ≡ two_lanes ch (both_at x y 4) (both_at x y 5) (both_at x y 6)
    → low_words (zip2 add64 (zip2 add64 (zip2 add64 h sigma) choice) (both s s)) ≡ both (temp1 x k w) (temp1 y k w)
temp1_is x y h sigma choice s k w sum eh es ec =
    low_sum (zip2 add64 (zip2 add64 h sigma) choice) (both s s)
    ∙ (λ i. zip2 add32 ((low_sum (zip2 add64 h sigma) choice
    ∙ (λ j. zip2 add32 ((low_sum h sigma ∙ (λ l. zip2 add32 (eh l) (es l))) j) (ec j))) i) (both (low s) (low s)))
    ∙ (λ i. lane (add32 (add32 (slice_index x 7) (big_sigma1 (slice_index x 4)))
    (ch (slice_index x 4) (slice_index x 5) (slice_index x 6))) i
    ∷ lane (add32 (add32 (slice_index y 7) (big_sigma1 (slice_index y 4)))
    (ch (slice_index y 4) (slice_index y 5) (slice_index y 6))) i ∷ [])
  where
    lane : (n : ℕ) → add32 n (low s) ≡ add32 (add32 n k) w
    lane n = omega (arith, sum)

-- T 2 of both
pub temp2_is : (x y sigma most : List ℕ) → low_words sigma ≡ map big_sigma0 (both_at x y 0)
    → low_words most ≡ two_lanes maj (both_at x y 0) (both_at x y 1) (both_at x y 2)
    → low_words (zip2 add64 sigma most) ≡ both (temp2 x) (temp2 y)
temp2_is x y sigma most es em = low_sum sigma most ∙ (λ i. zip2 add32 (es i) (em i))

pub sum_is : (u v : List ℕ) (a b c d : ℕ) → low_words u ≡ both a b → low_words v ≡ both c d
    → low_words (zip2 add64 u v) ≡ both (add32 a c) (add32 b d)
sum_is u v a b c d eu ev = low_sum u v ∙ (λ i. zip2 add32 (eu i) (ev i))
