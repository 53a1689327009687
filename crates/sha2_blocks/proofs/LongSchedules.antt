-- The words of a block of SHA-384, SHA-512, SHA-512/224 or SHA-512/256, two at a time, and their sums with the round
-- constants.
use Rattle.std.proofs.Common.{◌≡◌, ℕ, zero, suc, ◌+◌, ◌-◌, ◌*◌, ◌/◌, ◌%◌, ◌^◌, ◌<◌, ◌≤◌, List, [], ◌∷◌, ◌++◌, length}
use Rattle.std.proofs.Common.{map, slice_index, bit_or}
use Rattle.std.proofs.Common.{Fits, w64, bit_xor, refl, sym, ap, ◌∙◌, arith}
use Rattle.std.proofs.lemmas.Simd.{Each1-get_or, get_or-chunk, length-chunk}
use Rattle.std.specs.Simd.Lanes.{Each1, chunk, pick_l, zip2}
use Rattle.sha2.specs.Sha512.{add64, next_word, round, round_constants, rounds, schedule, small_sigma0, small_sigma1}
use Rattle.sha2.specs.Sha512.{word_at}
use Rattle.sha2.proofs.Schedule512.{rounds_next, slice_index-schedule_first, slice_index-schedule_next}
use Rattle.sha2_blocks.proofs.Bits.{turned, twice_is}
use Rattle.sha2_blocks.specs.LongSteps.{AreSixteen, HaveCome, two_sums, two_words}
use Rattle.sha2_blocks.specs.declared.long_singles.Stage.{Stage}
use Rattle.sha2_blocks.specs.declared.long_words.Sixteen.{Sixteen}

-- ---- the lower case sigmas of two lanes

abbrev right_lanes : List ℕ → ℕ → List ℕ
right_lanes x n = zip2 (λ (y k : ℕ). y / 2 ^ k) x (n ∷ n ∷ [])

abbrev left_lanes : List ℕ → ℕ → List ℕ
left_lanes x n = zip2 (λ (y k : ℕ). y * 2 ^ k % 2 ^ 64) x (n ∷ n ∷ [])

-- each lane rotated by n places to the right
abbrev pub turned_lanes : List ℕ → ℕ → List ℕ
turned_lanes x n = zip2 bit_or (right_lanes x n) (left_lanes x (64 - n))

pub lane_lt : (x : List ℕ) (j : ℕ) → length x ≡ 2 → j < 2 → Each1 (Fits w64) x → slice_index x j < 2 ^ 64
lane_lt x j h below fits = (Each1-get_or (Fits w64) x j 0 (omega arith) fits).fits

-- of two rotations the one by fewer places is done outside the sum
pub sigma0_is : (x : ℕ) → x < 2 ^ 64 → bit_xor (turned 64 (bit_xor x (turned 64 x 7)) 1) (x / 2 ^ 7) ≡ small_sigma0 x
sigma0_is x fits =
    ap (λ (y : ℕ). bit_xor y (x / 2 ^ 7)) (twice_is 64 x 1 7 (omega arith) (omega arith) (omega arith) fits)

pub sigma1_is : (x : ℕ) → x < 2 ^ 64 → bit_xor (turned 64 (bit_xor x (turned 64 x 42)) 19) (x / 2 ^ 6) ≡ small_sigma1 x
sigma1_is x fits =
    ap (λ (y : ℕ). bit_xor y (x / 2 ^ 6)) (twice_is 64 x 19 42 (omega arith) (omega arith) (omega arith) fits)

pub sigma0_lanes : (x : List ℕ) → length x ≡ 2 → Each1 (Fits w64) x
    → zip2 bit_xor (turned_lanes (zip2 bit_xor x (turned_lanes x 7)) 1) (right_lanes x 7) ≡ map small_sigma0 x
sigma0_lanes (a ∷ b ∷ []) h fits = λ i. sigma0_is a (lane_lt (a ∷ b ∷ []) 0 h (omega arith) fits) i
    ∷ sigma0_is b (lane_lt (a ∷ b ∷ []) 1 h (omega arith) fits) i ∷ []
sigma0_lanes [] h fits = absurd (omega arith)
sigma0_lanes (a ∷ []) h fits = absurd (omega arith)
sigma0_lanes (a ∷ b ∷ c ∷ x) h fits = absurd (omega arith)

pub sigma1_lanes : (x : List ℕ) → length x ≡ 2 → Each1 (Fits w64) x
    → zip2 bit_xor (turned_lanes (zip2 bit_xor x (turned_lanes x 42)) 19) (right_lanes x 6) ≡ map small_sigma1 x
sigma1_lanes (a ∷ b ∷ []) h fits = λ i. sigma1_is a (lane_lt (a ∷ b ∷ []) 0 h (omega arith) fits) i
    ∷ sigma1_is b (lane_lt (a ∷ b ∷ []) 1 h (omega arith) fits) i ∷ []
sigma1_lanes [] h fits = absurd (omega arith)
sigma1_lanes (a ∷ []) h fits = absurd (omega arith)
sigma1_lanes (a ∷ b ∷ c ∷ x) h fits = absurd (omega arith)

-- ---- the next two words

-- a word from those before it, added in the order of the code
word_next : (b : List ℕ) (n i j k l : ℕ) → i + 16 ≡ n → j + 15 ≡ n → k + 7 ≡ n → l + 2 ≡ n → n < 80
    → add64 (add64 (add64 (slice_index (schedule b 64) i) (slice_index (schedule b 64) k))
    (small_sigma0 (slice_index (schedule b 64) j)))
    (small_sigma1 (slice_index (schedule b 64) l)) ≡ slice_index (schedule b 64) n
word_next b n i j k l ei ej ek el below =
    let ws : List ℕ = schedule b 64 in
    let ni : n - 16 ≡ i = omega arith in
    let nj : n - 15 ≡ j = omega arith in
    let nk : n - 7 ≡ k = omega arith in
    let nl : n - 2 ≡ l = omega arith in
    let next : slice_index ws n ≡ next_word ws n = slice_index-schedule_next b 64 n (omega arith) (omega arith) in
    let order : add64 (add64 (add64 (slice_index ws i) (slice_index ws k)) (small_sigma0 (slice_index ws j)))
    (small_sigma1 (slice_index ws l))
    ≡ add64 (add64 (add64 (small_sigma1 (slice_index ws l)) (slice_index ws k)) (small_sigma0 (slice_index ws j)))
    (slice_index ws i) =
    reordered (slice_index ws i) (slice_index ws k) (small_sigma0 (slice_index ws j))
    (small_sigma1 (slice_index ws l)) in
    order ∙ sym (rw (ni, nj, nk, nl) at next)
  where
    reordered : (x y z u : ℕ) → add64 (add64 (add64 x y) z) u ≡ add64 (add64 (add64 u y) z) x
    reordered x y z u = omega arith

abbrev words_after : (w0 w1 w4 w5 w7 : List ℕ) → List ℕ
words_after w0 w1 w4 w5 w7 = zip2 add64 (zip2 add64 (zip2 add64 w0 (pick_l 0 (w4 ++ w5) (1 ∷ 2 ∷ [])))
    (map small_sigma0 (pick_l 0 (w0 ++ w1) (1 ∷ 2 ∷ [])))) (map small_sigma1 w7)

pub two_next : (b : List ℕ) (t : ℕ) (w0 w1 w4 w5 w7 : List ℕ) → t + 18 ≤ 80
    → w0 ≡ two_words (schedule b 64) t → w1 ≡ two_words (schedule b 64) (t + 2) → w4 ≡ two_words (schedule b 64) (t + 8)
    → w5 ≡ two_words (schedule b 64) (t + 10) → w7 ≡ two_words (schedule b 64) (t + 14)
    → words_after w0 w1 w4 w5 w7 ≡ two_words (schedule b 64) (t + 16)
two_next b t w0 w1 w4 w5 w7 fits e0 e1 e4 e5 e7 =
    let n0 = word_next b (t + 16) t (t + 1) (t + 8 + 1) (t + 14) (omega arith) (omega arith) (omega arith) (omega arith)
    (omega arith) in
    let n1 = word_next b (t + 16 + 1) (t + 1) (t + 2) (t + 10) (t + 14 + 1) (omega arith) (omega arith) (omega arith)
    (omega arith) (omega arith) in
    rw (e0, e1, e4, e5, e7) (λ i. n0 i ∷ n1 i ∷ [])

-- the first sixteen words are the block's
pub two_first : (b w : List ℕ) (t : ℕ) → t + 2 ≤ 16 → w ≡ word_at b (8 * t) ∷ word_at b (8 * t + 8) ∷ []
    → w ≡ two_words (schedule b 64) t
two_first b w t fits e =
    let p1 : 8 * (t + 1) ≡ 8 * t + 8 = omega arith in
    e ∙ sym (λ i. slice_index-schedule_first b 64 t (omega arith) i
    ∷ (slice_index-schedule_first b 64 (t + 1) (omega arith) ∙ ap (word_at b) p1) i ∷ [])

-- ---- sums

pub two_at : (ws : List ℕ) (t j : ℕ) → j < 2 → slice_index (two_words ws t) j ≡ slice_index ws (t + j)
two_at ws t zero h = ap (slice_index ws) (omega arith)
two_at ws t (suc zero) h = refl
two_at ws t (suc (suc j)) h = absurd (omega arith)

pub two_is : (x : List ℕ) → length x ≡ 2 → x ≡ slice_index x 0 ∷ slice_index x 1 ∷ []
two_is (a ∷ b ∷ []) h = refl
two_is [] h = absurd (omega arith)
two_is (a ∷ []) h = absurd (omega arith)
two_is (a ∷ b ∷ c ∷ x) h = absurd (omega arith)

-- the constants from place t on, with the words from t on
pub sums_are : (words constants ws : List ℕ) (t : ℕ) → t + 2 ≤ 80 → constants ≡ chunk t 2 round_constants
    → words ≡ two_words ws t
    → zip2 add64 constants words ≡ two_sums ws t
sums_are words constants ws t fits ec two =
    let none : t + 0 ≡ t = omega arith in
    let k0 = get_or-chunk t 2 round_constants 0 0 (omega arith) in
    let k1 = get_or-chunk t 2 round_constants 1 0 (omega arith) in
    let constants_are = ec ∙ two_is (chunk t 2 round_constants) (length-chunk t 2 round_constants fits) in
    rw (constants_are, two) (λ i. add64 ((k0 ∙ ap (slice_index round_constants) none) i) (slice_index ws t)
    ∷ add64 (k1 i) (slice_index ws (t + 1)) ∷ [])

-- a round, with its sum
pub round_by : (h ws v next : List ℕ) (t sum : ℕ) → sum ≡ add64 (slice_index round_constants t) (slice_index ws t)
    → v ≡ rounds h ws t
    → ((k w : ℕ) → sum ≡ add64 k w → next ≡ round v k w) → next ≡ rounds h ws (t + 1)
round_by h ws v next t sum held ev is =
    is (slice_index round_constants t) (slice_index ws t) held
    ∙ ap (λ (x : List ℕ). round x (slice_index round_constants t) (slice_index ws t)) ev ∙ sym (rounds_next h ws t)

pub at_place : (w ws : List ℕ) (n k : ℕ) → n ≡ k → w ≡ two_words ws n → w ≡ two_words ws k
at_place w ws n k e held = held ∙ ap (two_words ws) e

pub sixteen_at : (w : Sixteen) (ws : List ℕ) (n k : ℕ) → n ≡ k → AreSixteen w ws n → AreSixteen w ws k
sixteen_at w ws n k e held = rw (← e) held

pub come_at : (stage : Stage) (h b : List ℕ) (n k : ℕ) → n ≡ k → HaveCome stage h b n → HaveCome stage h b k
come_at stage h b n k e came = rw (← e) came
