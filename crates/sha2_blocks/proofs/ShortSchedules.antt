-- The words of a block's schedule, four at a time, and their sums with the round constants.
use Rattle.std.proofs.Common.{◌≡◌, ℕ, zero, suc, ◌+◌, ◌-◌, ◌*◌, ◌/◌, ◌%◌, ◌^◌, ◌<◌, ◌≤◌, List, [], ◌∷◌, ◌++◌, length}
use Rattle.std.proofs.Common.{map, slice_index, bit_or}
use Rattle.std.proofs.Common.{bit_xor, refl, sym, ap, ◌∙◌, arith}
use Rattle.std.specs.Simd.Lanes.{pick_l, zip2}
use Rattle.sha2.specs.Sha256.{add32, next_word, round, round_constants, rounds, schedule, small_sigma0, small_sigma1}
use Rattle.sha2.specs.Sha256.{word_at}
use Rattle.sha2.proofs.Schedule256.{rounds_next, slice_index-schedule_first, slice_index-schedule_next}
use Rattle.sha2_blocks.specs.ShortSteps.{AreSixteen, four_words}
use Rattle.sha2_blocks.specs.Sums.{AreShortSums}
use Rattle.sha2_blocks.specs.declared.short_words.Sixteen.{Sixteen}
use Rattle.sha2_blocks.proofs.Sums.{fewer_short}

-- ---- the lower case sigmas of four lanes

abbrev right_lanes : List ℕ → ℕ → List ℕ
right_lanes x n = zip2 (λ (y k : ℕ). y / 2 ^ k) x (n ∷ n ∷ n ∷ n ∷ [])

abbrev left_lanes : List ℕ → ℕ → List ℕ
left_lanes x n = zip2 (λ (y k : ℕ). y * 2 ^ k % 2 ^ 32) x (n ∷ n ∷ n ∷ n ∷ [])

-- each lane rotated by n places to the right
abbrev turned_lanes : List ℕ → ℕ → List ℕ
turned_lanes x n = zip2 bit_or (right_lanes x n) (left_lanes x (32 - n))

pub sigma0_lanes : (x : List ℕ) → length x ≡ 4
    → zip2 bit_xor (zip2 bit_xor (turned_lanes x 7) (turned_lanes x 18)) (right_lanes x 3) ≡ map small_sigma0 x
sigma0_lanes (a ∷ b ∷ c ∷ d ∷ []) h = refl
sigma0_lanes [] h = absurd (omega arith)
sigma0_lanes (a ∷ []) h = absurd (omega arith)
sigma0_lanes (a ∷ b ∷ []) h = absurd (omega arith)
sigma0_lanes (a ∷ b ∷ c ∷ []) h = absurd (omega arith)
sigma0_lanes (a ∷ b ∷ c ∷ d ∷ e ∷ x) h = absurd (omega arith)

pub sigma1_lanes : (x : List ℕ) → length x ≡ 4
    → zip2 bit_xor (zip2 bit_xor (turned_lanes x 17) (turned_lanes x 19)) (right_lanes x 10) ≡ map small_sigma1 x
sigma1_lanes (a ∷ b ∷ c ∷ d ∷ []) h = refl
sigma1_lanes [] h = absurd (omega arith)
sigma1_lanes (a ∷ []) h = absurd (omega arith)
sigma1_lanes (a ∷ b ∷ []) h = absurd (omega arith)
sigma1_lanes (a ∷ b ∷ c ∷ []) h = absurd (omega arith)
sigma1_lanes (a ∷ b ∷ c ∷ d ∷ e ∷ x) h = absurd (omega arith)

-- ---- the next four words

-- a word from those before it, added in the order of the code
word_next : (b : List ℕ) (n i j k l : ℕ) → i + 16 ≡ n → j + 15 ≡ n → k + 7 ≡ n → l + 2 ≡ n → n < 64
    → add32 (add32 (add32 (slice_index (schedule b 48) i) (slice_index (schedule b 48) k))
    (small_sigma0 (slice_index (schedule b 48) j)))
    (small_sigma1 (slice_index (schedule b 48) l)) ≡ slice_index (schedule b 48) n
word_next b n i j k l ei ej ek el below =
    let ws : List ℕ = schedule b 48 in
    let ni : n - 16 ≡ i = omega arith in
    let nj : n - 15 ≡ j = omega arith in
    let nk : n - 7 ≡ k = omega arith in
    let nl : n - 2 ≡ l = omega arith in
    let next : slice_index ws n ≡ next_word ws n = slice_index-schedule_next b 48 n (omega arith) (omega arith) in
    let order : add32 (add32 (add32 (slice_index ws i) (slice_index ws k)) (small_sigma0 (slice_index ws j)))
    (small_sigma1 (slice_index ws l))
    ≡ add32 (add32 (add32 (small_sigma1 (slice_index ws l)) (slice_index ws k)) (small_sigma0 (slice_index ws j)))
    (slice_index ws i) =
    reordered (slice_index ws i) (slice_index ws k) (small_sigma0 (slice_index ws j))
    (small_sigma1 (slice_index ws l)) in
    order ∙ sym (rw (ni, nj, nk, nl) at next)
  where
    reordered : (x y z u : ℕ) → add32 (add32 (add32 x y) z) u ≡ add32 (add32 (add32 u y) z) x
    reordered x y z u = omega arith

-- a lane to which nothing is added
none_added : (x y : ℕ) → add32 (add32 x y) 0 ≡ add32 x y
none_added x y = omega arith

-- what is known of the next four words without the last two of the sixteen
abbrev known_words : (w0 w1 w2 w3 : List ℕ) → List ℕ
known_words w0 w1 w2 w3 = zip2 add32 (zip2 add32 w0 (pick_l 0 (w2 ++ w3) (1 ∷ 2 ∷ 3 ∷ 4 ∷ [])))
    (map small_sigma0 (pick_l 0 (w0 ++ w1) (1 ∷ 2 ∷ 3 ∷ 4 ∷ [])))

abbrev zeros : List ℕ
zeros = 0 ∷ 0 ∷ 0 ∷ 0 ∷ []

-- with those two
abbrev first_two : (w0 w1 w2 w3 : List ℕ) → List ℕ
first_two w0 w1 w2 w3 =
    zip2 add32 (known_words w0 w1 w2 w3) (map small_sigma1 (pick_l 0 (w3 ++ zeros) (2 ∷ 3 ∷ 4 ∷ 4 ∷ [])))

-- and with the first two of the four themselves
abbrev all_four : (w0 w1 w2 w3 : List ℕ) → List ℕ
all_four w0 w1 w2 w3 = zip2 add32 (first_two w0 w1 w2 w3)
    (map small_sigma1 (pick_l 0 (first_two w0 w1 w2 w3 ++ zeros) (4 ∷ 4 ∷ 0 ∷ 1 ∷ [])))

pub four_next : (b : List ℕ) (t : ℕ) (w0 w1 w2 w3 : List ℕ) → t + 20 ≤ 64
    → w0 ≡ four_words (schedule b 48) t → w1 ≡ four_words (schedule b 48) (t + 4)
    → w2 ≡ four_words (schedule b 48) (t + 8)
    → w3 ≡ four_words (schedule b 48) (t + 12) → all_four w0 w1 w2 w3 ≡ four_words (schedule b 48) (t + 16)
four_next b t w0 w1 w2 w3 fits e0 e1 e2 e3 =
    let n0 = word_next b (t + 16) t (t + 1) (t + 8 + 1) (t + 12 + 2) (omega arith) (omega arith) (omega arith)
    (omega arith) (omega arith) in
    let n1 = word_next b (t + 16 + 1) (t + 1) (t + 2) (t + 8 + 2) (t + 12 + 3) (omega arith) (omega arith) (omega arith)
    (omega arith) (omega arith) in
    let n2 = word_next b (t + 16 + 2) (t + 2) (t + 3) (t + 8 + 3) (t + 16) (omega arith) (omega arith) (omega arith)
    (omega arith) (omega arith) in
    let n3 = word_next b (t + 16 + 3) (t + 3) (t + 4) (t + 12) (t + 16 + 1) (omega arith) (omega arith) (omega arith)
    (omega arith) (omega arith) in
    let ws : List ℕ = schedule b 48 in
    let x2 : ℕ = add32 (slice_index ws (t + 2)) (slice_index ws (t + 8 + 3)) in
    let x3 : ℕ = add32 (slice_index ws (t + 3)) (slice_index ws (t + 12)) in
    rw (e0, e1, e2, e3)
    (λ i. (none_added _ _ ∙ n0) i ∷ (none_added _ _ ∙ n1) i
    ∷ ((λ j. add32 (none_added x2 (small_sigma0 (slice_index ws (t + 3))) j) (small_sigma1 (n0 j))) ∙ n2) i
    ∷ ((λ j. add32 (none_added x3 (small_sigma0 (slice_index ws (t + 4))) j) (small_sigma1 (n1 j))) ∙ n3) i ∷ [])

-- the first sixteen words are the block's
pub four_first : (b w : List ℕ) (t : ℕ) → t + 4 ≤ 16
    → w ≡ word_at b (4 * t) ∷ word_at b (4 * t + 4) ∷ word_at b (4 * t + 8) ∷ word_at b (4 * t + 12) ∷ []
    → w ≡ four_words (schedule b 48) t
four_first b w t fits e =
    let p1 : 4 * (t + 1) ≡ 4 * t + 4 = omega arith in
    let p2 : 4 * (t + 2) ≡ 4 * t + 8 = omega arith in
    let p3 : 4 * (t + 3) ≡ 4 * t + 12 = omega arith in
    e ∙ sym (λ i. slice_index-schedule_first b 48 t (omega arith) i
    ∷ (slice_index-schedule_first b 48 (t + 1) (omega arith) ∙ ap (word_at b) p1) i
    ∷ (slice_index-schedule_first b 48 (t + 2) (omega arith) ∙ ap (word_at b) p2) i
    ∷ (slice_index-schedule_first b 48 (t + 3) (omega arith) ∙ ap (word_at b) p3) i ∷ [])

-- ---- places

pub four_at : (ws : List ℕ) (t j : ℕ) → j < 4 → slice_index (four_words ws t) j ≡ slice_index ws (t + j)
four_at ws t zero h = ap (slice_index ws) (omega arith)
four_at ws t (suc zero) h = refl
four_at ws t (suc (suc zero)) h = refl
four_at ws t (suc (suc (suc zero))) h = refl
four_at ws t (suc (suc (suc (suc j)))) h = absurd (omega arith)

pub at_place : (w ws : List ℕ) (n k : ℕ) → n ≡ k → w ≡ four_words ws n → w ≡ four_words ws k
at_place w ws n k e held = held ∙ ap (four_words ws) e

pub sixteen_at : (w : Sixteen) (ws : List ℕ) (n k : ℕ) → n ≡ k → AreSixteen w ws n → AreSixteen w ws k
sixteen_at w ws n k e held = rw (← e) held

-- a round, with its sum
pub round_by : (h ws v next : List ℕ) (t sum : ℕ) → sum ≡ add32 (slice_index round_constants t) (slice_index ws t)
    → v ≡ rounds h ws t
    → ((k w : ℕ) → sum ≡ add32 k w → next ≡ round v k w) → next ≡ rounds h ws (t + 1)
round_by h ws v next t sum held ev is =
    is (slice_index round_constants t) (slice_index ws t) held
    ∙ ap (λ (x : List ℕ). round x (slice_index round_constants t) (slice_index ws t)) ev ∙ sym (rounds_next h ws t)

-- ---- sixteen words more

-- what taking four words more does to the words and the sums
abbrev pub FourMore : ℕ → Sixteen → Sixteen → List ℕ → List ℕ → Type 0
FourMore t w w' sums sums' = record {
  words : (b : List ℕ) → AreSixteen w (schedule b 48) t → AreSixteen w' (schedule b 48) (t + 4);
  sums : (b : List ℕ) → AreSixteen w (schedule b 48) t → AreShortSums sums (schedule b 48) (t + 16)
      → AreShortSums sums' (schedule b 48) (t + 20);
}

-- after four such steps, and the sums after each
pub record SixteenMore (ws : List ℕ) (t : ℕ) (w : Sixteen) (s1 s2 s3 s4 : List ℕ) : Type 0 where
  pub words : AreSixteen w ws (t + 16)
  pub first : AreShortSums s1 ws (t + 4 + 16)
  pub second : AreShortSums s2 ws (t + 8 + 16)
  pub third : AreShortSums s3 ws (t + 12 + 16)
  pub fourth : AreShortSums s4 ws (t + 16 + 16)

pub sixteen_more : {w0 w1 w2 w3 w4 : Sixteen} (s0 s1 s2 s3 s4 b : List ℕ) (t : ℕ)
    → FourMore t w0 w1 s0 s1 → FourMore (t + 4) w1 w2 s1 s2 → FourMore (t + 8) w2 w3 s2 s3
    → FourMore (t + 12) w3 w4 s3 s4 → AreSixteen w0 (schedule b 48) t → AreShortSums s0 (schedule b 48) (t + 16)
    → SixteenMore (schedule b 48) t w4 s1 s2 s3 s4
sixteen_more s0 s1 s2 s3 s4 b t first second third fourth words sums =
    let ws = schedule b 48 in
    let w1 = first.words b words in
    let w2 = sixteen_at _ ws _ (t + 8) (omega arith) (second.words b w1) in
    let w3 = sixteen_at _ ws _ (t + 12) (omega arith) (third.words b w2) in
    let sums1 = fewer_short s1 ws _ (t + 4 + 16) (omega arith) (first.sums b words sums) in
    let sums2 = fewer_short s2 ws _ (t + 8 + 16) (omega arith) (second.sums b w1 sums1) in
    let sums3 = fewer_short s3 ws _ (t + 12 + 16) (omega arith) (third.sums b w2 sums2) in
    record {
      words = sixteen_at _ ws _ (t + 16) (omega arith) (fourth.words b w3);
      first = sums1;
      second = sums2;
      third = sums3;
      fourth = fewer_short s4 ws _ (t + 16 + 16) (omega arith) (fourth.sums b w3 sums3);
    }
