-- The arithmetic of a row.
use Rattle.std.proofs.Common.{◌≡◌, ℕ, ◌+◌, ◌*◌, ◌/◌, ◌%◌, ◌^◌, ◌<◌, List, length, get_or, set, take, bit_and, refl, ap}
use Rattle.std.proofs.Common.{sym, ◌∙◌, arith}
use Rattle.std.proofs.Math.Nat.{add-mul-mod_self_right, mod-eq_of_lt, mul-mod_left, mod-add-mod, zero-add}
use Rattle.std.proofs.lemmas.Nat.{mul-mod_first, mul-mod_second, and_mask, div-add-mod'}
use Rattle.big_numbers.specs.Numbers.{value}
use Rattle.big_numbers.proofs.Values.{value_first, value_more, value_more_set, power_more, value_last_set, value_whole}

-- W: the base; P: its power at the place; t: the words so far; s: what they are of
word_step : (W P t s c d b u n word m low high total higher : ℕ)
    → W * t + P * W * (c + d) ≡ s
    → low + high * W ≡ word * b + u + c
    → total + higher * W ≡ m * n + low + d
    → W * (t + P * total) + P * W * W * (high + higher) ≡ s + P * W * (u + word * b + m * n)
word_step W P t s c d b u n word m low high total higher e f g =
    let f' : P * W * (low + high * W) ≡ P * W * (word * b + u + c) = ap (λ z. P * W * z) f in
    let g' : P * W * (total + higher * W) ≡ P * W * (m * n + low + d) = ap (λ z. P * W * z) g in
    omega arith

-- the lowest word of the sum is 0
zero_word : (W low n inverse m none higher : ℕ)
    → m ≡ (low * inverse) % W
    → none + higher * W ≡ m * n + low + 0
    → (n * inverse + 1) % W ≡ 0
    → none < W
    → none ≡ 0
zero_word W low n inverse m none higher e f g h =
    sym (mod-eq_of_lt h)
    ∙ sym (add-mul-mod_self_right none higher W)
    ∙ ap (λ z. z % W) (f ∙ ap (λ z. z * n + low + 0) e)
    ∙ ap (λ z. z % W) (let q : (low * inverse) % W * n + low + 0 ≡ (low * inverse) % W * n + low = omega arith in q)
    ∙ sym (mod-add-mod ((low * inverse) % W * n) W low)
    ∙ ap (λ z. (z + low) % W) (mul-mod_first (low * inverse) n W)
    ∙ mod-add-mod (low * inverse * n) W low
    ∙ ap (λ z. z % W) (let q : low * inverse * n + low ≡ low * (n * inverse + 1) = omega arith in q)
    ∙ sym (mul-mod_second low (n * inverse + 1) W)
    ∙ ap (λ z. (low * z) % W) g
    ∙ ap (λ z. z % W) (let q : low * 0 ≡ 0 * W = omega arith in q)
    ∙ mul-mod_left 0 W

first_word : (W u b n word m low high none higher : ℕ)
    → low + high * W ≡ word * b + u + 0
    → none + higher * W ≡ m * n + low + 0
    → none ≡ 0
    → W * (high + higher) ≡ u + word * b + m * n
first_word W u b n word m low high none higher e f g = omega arith

last_word : (W P v c d top s x r : ℕ)
    → W * v + P * W * (c + d) ≡ s
    → r * W + x ≡ c + d + top
    → W * (v + P * x + P * W * r) ≡ s + P * W * top
last_word W P v c d top s x r e f =
    let f' : P * W * (r * W + x) ≡ P * W * (c + d + top) = ap (λ z. P * W * z) f in
    omega arith

-- the sum of the first words
abbrev pub sum_of_first : ℕ → List ℕ → ℕ → List ℕ → ℕ → List ℕ → ℕ
sum_of_first i t word b m n = value (take i t) + word * value (take i b) + m * value (take i n)

pub row_begins : (t b n : List ℕ) (word inverse low high none higher : ℕ)
    → 0 < length t → length b ≡ length t → length n ≡ length t
    → (get_or n 0 0 * inverse + 1) % 2 ^ 64 ≡ 0
    → low + high * 2 ^ 64 ≡ word * get_or b 0 0 + get_or t 0 0 + 0
    → none + higher * 2 ^ 64 ≡ (low * inverse) % 2 ^ 64 * get_or n 0 0 + low + 0
    → none < 2 ^ 64
    → 0 + 2 ^ 64 * (high + higher) ≡ sum_of_first 1 t word b ((low * inverse) % 2 ^ 64) n
row_begins t b n word inverse low high none higher some lb ln i e f z =
    let is_none : none ≡ 0 =
    zero_word (2 ^ 64) low (get_or n 0 0) inverse ((low * inverse) % 2 ^ 64) none higher refl f i z in
    let vt = value_first t some in
    let vb = value_first b (omega arith) in
    let vn = value_first n (omega arith) in
    rw (vt, vb, vn) (zero-add _ ∙ first_word (2 ^ 64) (get_or t 0 0) (get_or b 0 0) (get_or n 0 0) word
    ((low * inverse) % 2 ^ 64) low high none higher e f is_none)

regroup : (u word b m n q x y z : ℕ) → u + word * b + m * n + q * (x + word * y + m * z)
    ≡ (u + q * x) + word * (b + q * y) + m * (n + q * z)
regroup u word b m n q x y z = omega arith

pub row_goes_on : (t u b n : List ℕ) (j word m c d low high total higher : ℕ)
    → j + 1 < length u → length t ≡ length u → length b ≡ length u → length n ≡ length u
    → 2 ^ 64 * value (take j t) + (2 ^ 64) ^ j * 2 ^ 64 * (c + d) ≡ sum_of_first (j + 1) u word b m n
    → low + high * 2 ^ 64 ≡ word * get_or b (j + 1) 0 + get_or u (j + 1) 0 + c
    → total + higher * 2 ^ 64 ≡ m * get_or n (j + 1) 0 + low + d
    → 2 ^ 64 * value (take (j + 1) (set t j total)) + (2 ^ 64) ^ (j + 1) * 2 ^ 64 * (high + higher)
    ≡ sum_of_first (j + 1 + 1) u word b m n
row_goes_on t u b n j word m c d low high total higher h lt lb ln e f g =
    let hu : j + 1 < length u = h in
    let vu = value_more u (j + 1) h in
    let vb = value_more b (j + 1) (omega arith) in
    let vn = value_more n (j + 1) (omega arith) in
    let vt = value_more_set t j total (omega arith) in
    let p = power_more (2 ^ 64) j in
    let s = word_step (2 ^ 64) ((2 ^ 64) ^ j) (value (take j t)) (sum_of_first (j + 1) u word b m n) c d
    (get_or b (j + 1) 0)
    (get_or u (j + 1) 0) (get_or n (j + 1) 0) word m low high total higher e f g in
    rw (vt, vu, vb, vn, p)
    (s ∙ regroup (value (take (j + 1) u)) word (value (take (j + 1) b)) m (value (take (j + 1) n))
    ((2 ^ 64) ^ j * 2 ^ 64) (get_or u (j + 1) 0) (get_or b (j + 1) 0) (get_or n (j + 1) 0))

order : (u word b m n q : ℕ) → u + word * b + m * n + q ≡ u + q + word * b + m * n
order u word b m n q = omega arith

pub row_ends : (t u b n : List ℕ) (j word m c d top : ℕ)
    → j + 1 ≡ length u → length t ≡ length u → length b ≡ length u → length n ≡ length u
    → 2 ^ 64 * value (take j t) + (2 ^ 64) ^ j * 2 ^ 64 * (c + d) ≡ sum_of_first (j + 1) u word b m n
    → 2 ^ 64 * (value (set t j (bit_and (c + d + top) 0xffff_ffff_ffff_ffff)) + (2 ^ 64) ^ length u
    * ((c + d + top) / 2 ^ 64))
    ≡ value u + (2 ^ 64) ^ length u * top + word * value b + m * value n
row_ends t u b n j word m c d top h lt lb ln e =
    let vt = value_last_set t j (length u) (bit_and (c + d + top) 0xffff_ffff_ffff_ffff) lt h in
    let p : (2 ^ 64) ^ length u ≡ (2 ^ 64) ^ j * 2 ^ 64 = ap (λ k. (2 ^ 64) ^ k) (sym h) ∙ power_more (2 ^ 64) j in
    let split : (c + d + top) / 2 ^ 64 * 2 ^ 64 + bit_and (c + d + top) 0xffff_ffff_ffff_ffff ≡ c + d + top
    = ap (λ z. (c + d + top) / 2 ^ 64 * 2 ^ 64 + z) (and_mask (c + d + top) 64) ∙ div-add-mod' (c + d + top) (2 ^ 64) in
    let vu = value_whole u (j + 1) (omega arith) in
    let vb = value_whole b (j + 1) (omega arith) in
    let vn = value_whole n (j + 1) (omega arith) in
    let s = last_word (2 ^ 64) ((2 ^ 64) ^ j) (value (take j t)) c d top (sum_of_first (j + 1) u word b m n)
    (bit_and (c + d + top) 0xffff_ffff_ffff_ffff) ((c + d + top) / 2 ^ 64) e split in
    rw (vt, p) (s ∙ rw (vu, vb, vn) (order (value u) word (value b) m (value n) ((2 ^ 64) ^ j * 2 ^ 64 * top)))
