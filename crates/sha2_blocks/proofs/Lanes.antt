-- Ch and Maj of two lanes, of 64 bits or of their low halves.
use Rattle.std.proofs.Common.{◌≡◌, ℕ, ◌%◌, ◌^◌, ◌<◌, List, [], ◌∷◌, length, slice_index}
use Rattle.std.proofs.Common.{Fits, bit_and, bit_xor, ◌∙◌, arith, mod-lt, pow_pos, w32, w64}
use Rattle.std.proofs.lemmas.Nat.{and_mod, xor_mod}
use Rattle.std.specs.Simd.Lanes.{Each1, zip2}
use Rattle.sha2.specs.Sha256 as short
use Rattle.sha2.specs.Sha512 as long
use Rattle.sha2_blocks.specs.Pairs.{low_words, two_lanes}
use Rattle.sha2_blocks.proofs.Bits.{choose_is, majority_is}
use Rattle.sha2_blocks.proofs.LongSchedules.{lane_lt, two_is}

-- what holds of any two lanes
pub of_two : (P : List ℕ → Type 0) → ((a b : ℕ) → P (a ∷ b ∷ [])) → (x : List ℕ) → length x ≡ 2 → P x
of_two P held (a ∷ b ∷ []) h = held a b
of_two P held [] h = absurd (omega arith)
of_two P held (a ∷ []) h = absurd (omega arith)
of_two P held (a ∷ b ∷ c ∷ x) h = absurd (omega arith)

-- ---- of 64 bits

pub choose_lanes : (x y z : List ℕ) → length x ≡ 2 → length y ≡ 2 → length z ≡ 2
    → Each1 (Fits w64) x → Each1 (Fits w64) y → Each1 (Fits w64) z
    → zip2 bit_xor z (zip2 bit_and x (zip2 bit_xor y z)) ≡ two_lanes long.ch x y z
choose_lanes x y z hx hy hz fx fy fz =
    let lane : (j : ℕ) → j < 2
    → bit_xor (slice_index z j) (bit_and (slice_index x j) (bit_xor (slice_index y j) (slice_index z j)))
    ≡ long.ch (slice_index x j) (slice_index y j) (slice_index z j) = λ j below.
    choose_is w64 (slice_index x j) (slice_index y j) (slice_index z j) (lane_lt x j hx below fx)
    (lane_lt y j hy below fy) (lane_lt z j hz below fz) in
    (λ i. zip2 bit_xor (two_is z hz i) (zip2 bit_and (two_is x hx i) (zip2 bit_xor (two_is y hy i) (two_is z hz i))))
    ∙ (λ i. lane 0 (omega arith) i ∷ lane 1 (omega arith) i ∷ [])

pub majority_lanes : (x y z : List ℕ) → length x ≡ 2 → length y ≡ 2 → length z ≡ 2
    → zip2 bit_xor y (zip2 bit_and (zip2 bit_xor x y) (zip2 bit_xor y z)) ≡ two_lanes long.maj x y z
majority_lanes x y z hx hy hz =
    (λ i. zip2 bit_xor (two_is y hy i)
    (zip2 bit_and (zip2 bit_xor (two_is x hx i) (two_is y hy i)) (zip2 bit_xor (two_is y hy i) (two_is z hz i))))
    ∙ (λ i. majority_is (slice_index x 0) (slice_index y 0) (slice_index z 0) i
    ∷ majority_is (slice_index x 1) (slice_index y 1) (slice_index z 1) i ∷ [])

-- ---- of their low halves

abbrev pub low : ℕ → ℕ
low x = x % 2 ^ 32

pub low_lt : (x : ℕ) → low x < 2 ^ 32
low_lt x = mod-lt x (pow_pos 32)

choose_lane : (x y z : ℕ) → low (bit_xor z (bit_and x (bit_xor y z))) ≡ short.ch (low x) (low y) (low z)
choose_lane x y z =
    rw (xor_mod z (bit_and x (bit_xor y z)) 32, and_mod x (bit_xor y z) 32, xor_mod y z 32)
    (choose_is w32 (low x) (low y) (low z) (low_lt x) (low_lt y) (low_lt z))

majority_lane : (x y z : ℕ) → low (bit_xor y (bit_and (bit_xor x y) (bit_xor y z))) ≡ short.maj (low x) (low y) (low z)
majority_lane x y z =
    rw (
      xor_mod y (bit_and (bit_xor x y) (bit_xor y z)) 32,
      and_mod (bit_xor x y) (bit_xor y z) 32,
      xor_mod x y 32,
      xor_mod y z 32,
    )
    (majority_is (low x) (low y) (low z))

abbrev Choose : List ℕ → List ℕ → List ℕ → Type 0
Choose x y z = low_words (zip2 bit_xor z (zip2 bit_and x (zip2 bit_xor y z)))
    ≡ two_lanes short.ch (low_words x) (low_words y) (low_words z)

pub low_choose_lanes : (x y z : List ℕ) → length x ≡ 2 → length y ≡ 2 → length z ≡ 2 → Choose x y z
low_choose_lanes x y z hx hy hz =
    of_two (λ u. Choose u y z) (λ a b. of_two (λ v. Choose (a ∷ b ∷ []) v z)
    (λ c d. of_two (λ w. Choose (a ∷ b ∷ []) (c ∷ d ∷ []) w)
    (λ e f. (λ i. choose_lane a c e i ∷ choose_lane b d f i ∷ [])) z hz) y hy) x hx

abbrev Majority : List ℕ → List ℕ → List ℕ → Type 0
Majority x y z = low_words (zip2 bit_xor y (zip2 bit_and (zip2 bit_xor x y) (zip2 bit_xor y z)))
    ≡ two_lanes short.maj (low_words x) (low_words y) (low_words z)

pub low_majority_lanes : (x y z : List ℕ) → length x ≡ 2 → length y ≡ 2 → length z ≡ 2 → Majority x y z
low_majority_lanes x y z hx hy hz =
    of_two (λ u. Majority u y z) (λ a b. of_two (λ v. Majority (a ∷ b ∷ []) v z)
    (λ c d. of_two (λ w. Majority (a ∷ b ∷ []) (c ∷ d ∷ []) w)
    (λ e f. (λ i. majority_lane a c e i ∷ majority_lane b d f i ∷ [])) z hz) y hy) x hx
