-- The arithmetic of doublings.
use Rattle.std.proofs.Common.{◌≡◌, ℕ, ◌+◌, ◌*◌, ◌%◌, ◌^◌, ◌<◌, List, length, get_or, set, take, ap, ◌∙◌, arith}
use Rattle.std.proofs.Math.Nat.{mod-mod}
use Rattle.big_numbers.specs.Numbers.{value}
use Rattle.big_numbers.proofs.Values.{value_more, value_more_set, power_more}
use Rattle.big_numbers.proofs.Congruences.{same_times}

word_doubled : (w p v u b c word y : ℕ) → v + p * b ≡ 2 * u → word + c * w ≡ y + y + b
    → v + p * word + p * w * c ≡ 2 * (u + p * y)
word_doubled w p v u b c word y e f = let m : p * (word + c * w) ≡ p * (y + y + b) = ap (λ z. p * z) f in omega arith

pub double_goes_on : (t u : List ℕ) (i b c word : ℕ) → i < length u → length t ≡ length u
    → value (take i t) + (2 ^ 64) ^ i * b ≡ 2 * value (take i u)
    → word + c * 2 ^ 64 ≡ get_or u i 0 + get_or u i 0 + b
    → value (take (i + 1) (set t i word)) + (2 ^ 64) ^ (i + 1) * c ≡ 2 * value (take (i + 1) u)
double_goes_on t u i b c word h lt e f =
    let vt = value_more_set t i word (omega arith) in
    let vu = value_more u i h in
    let p = power_more (2 ^ 64) i in
    rw (vt, vu, p)
    (word_doubled (2 ^ 64) ((2 ^ 64) ^ i) (value (take i t)) (value (take i u)) b c word (get_or u i 0) e f)

pub once_more : (n x v k : ℕ) → x ≡ (2 ^ k * v) % n → (2 * x) % n ≡ (2 ^ (k + 1) * v) % n
once_more n x v k e =
    ap (λ z. (2 * z) % n) e ∙ same_times n ((2 ^ k * v) % n) (2 ^ k * v) 2 (mod-mod (2 ^ k * v) n)
    ∙ ap (λ z. z % n) (let p = power_more 2 k in let q : 2 * (2 ^ k * v) ≡ 2 ^ (k + 1) * v = rw p (omega arith) in q)
