-- The arithmetic of powers.
use Rattle.std.proofs.Common.{◌≡◌, ℕ, ◌+◌, ◌-◌, ◌*◌, ◌/◌, ◌%◌, ◌^◌, ◌<◌, ◌≤◌, nat_eq, bit_and, refl, ap, sym, ◌∙◌, zero}
use Rattle.std.proofs.Common.{suc, lit<, arith}
use Rattle.std.specs.Int.{from_bool}
use Rattle.std.proofs.Math.Nat.{pow-suc, pow-zero, div-eq_of_lt-le, mod-lt}
use Rattle.std.proofs.lemmas.Nat.{pow-add, shr-shr, and_mask, leading_top}
use Rattle.std.specs.Int.Count.{count_leading_zeros}
use Rattle.big_numbers.proofs.Values.{power_more}

pub base_power : (k : ℕ) → 2 ^ (k * 64) ≡ (2 ^ 64) ^ k
base_power zero = refl
base_power (suc k) =
    ap (λ i. 2 ^ i) (let q : suc k * 64 ≡ k * 64 + 64 = omega arith in q) ∙ pow-add 2 (k * 64) 64
    ∙ ap (λ z. z * 2 ^ 64) (base_power k) ∙ sym (pow-suc (2 ^ 64) k)

-- the first power of the base, doubled so often
pub first_form : (k i : ℕ) → i + 1 ≡ k → 2 ^ (64 + k) * (2 ^ 64) ^ i ≡ 2 ^ (k * 1) * (2 ^ 64) ^ k
first_form k i e =
    ap (λ z. z * (2 ^ 64) ^ i) (pow-add 2 64 k)
    ∙ (let q : 2 ^ 64 * 2 ^ k * (2 ^ 64) ^ i ≡ 2 ^ k * ((2 ^ 64) ^ i * 2 ^ 64) = omega arith in q)
    ∙ ap (λ z. 2 ^ k * z) (sym (power_more (2 ^ 64) i) ∙ ap (λ z. (2 ^ 64) ^ z) e)
    ∙ ap (λ z. 2 ^ z * (2 ^ 64) ^ k) (let q : k ≡ k * 1 = omega arith in q)

pub squared_form : (k j : ℕ) → 2 ^ (k * 2 ^ j) * 2 ^ (k * 2 ^ j) ≡ 2 ^ (k * 2 ^ (j + 1))
squared_form k j =
    sym (pow-add 2 (k * 2 ^ j) (k * 2 ^ j))
    ∙ ap (λ z. 2 ^ z)
    (let p = power_more 2 j in let q : k * 2 ^ j + k * 2 ^ j ≡ k * 2 ^ (j + 1) = rw p (omega arith) in q)

pub squared : (s k : ℕ) → s ^ k * s ^ k ≡ s ^ (2 * k)
squared s k = sym (pow-add s k k) ∙ ap (λ i. s ^ i) (let q : k + k ≡ 2 * k = omega arith in q)

pub and_once_more : (s k : ℕ) → s ^ k * s ^ k * s ≡ s ^ (2 * k + 1)
and_once_more s k = ap (λ z. z * s) (squared s k) ∙ sym (power_more s (2 * k))

pub power_one : (s : ℕ) → s ^ 1 ≡ s
power_one s = power_more s 0 ∙ ap (λ z. z * s) (pow-zero s) ∙ (let q : 1 * s ≡ s = omega arith in q)

-- the highest bit of e
pub highest_bit : (e : ℕ) → 0 < e → e < 2 ^ 64 → e / 2 ^ (63 - count_leading_zeros 64 e) ≡ 1
highest_bit e h f =
    let t = leading_top 64 e h f in
    let j : ℕ = t.0 in
    let is : 63 - count_leading_zeros 64 e ≡ j = omega (arith, t.1) in
    ap (λ i. e / 2 ^ i) is
    ∙ div-eq_of_lt-le (2 ^ j) (let q : 1 * 2 ^ j ≤ e = omega (arith, t.2) in q)
    (let p = pow-suc 2 j in let q : e < (1 + 1) * 2 ^ j = omega (arith, t.3, p) in q)

bit_of : (r : ℕ) → r < 2 → from_bool (nat_eq r 1) ≡ r
bit_of zero h = refl
bit_of (suc zero) h = refl
bit_of (suc (suc r)) h = absurd (omega arith)

-- one bit of e more
pub next_bit : (e i : ℕ) → 0 < i
    → 2 * (e / 2 ^ i) + from_bool (nat_eq (bit_and (e / 2 ^ (i - 1)) 1) 1) ≡ e / 2 ^ (i - 1)
next_bit e i h =
    let f : ℕ = e / 2 ^ (i - 1) in
    let half : f / 2 ^ 1 ≡ e / 2 ^ i = shr-shr e (i - 1) 1
    ∙ ap (λ k. e / 2 ^ k) (let q : i - 1 + 1 ≡ i = omega arith in q) in
    let low : bit_and f 1 ≡ f % 2 = and_mask f 1 in
    ap (λ z. 2 * z + from_bool (nat_eq (bit_and f 1) 1)) (sym half)
    ∙ ap (λ z. 2 * (f / 2) + from_bool (nat_eq z 1)) low
    ∙ ap (λ z. 2 * (f / 2) + z) (bit_of (f % 2) (mod-lt f (lit< tt)))
    ∙ (let q : 2 * (f / 2) + f % 2 ≡ f = omega arith in q)

-- an exponent with so many bits of an octet more, the highest first
pub bit_more : (k octet i : ℕ) → i < 8
    → 2 * (k * 2 ^ i + octet / 2 ^ (8 - i)) + from_bool (nat_eq (bit_and (octet / 2 ^ (7 - i)) 1) 1)
    ≡ k * 2 ^ (i + 1) + octet / 2 ^ (8 - (i + 1))
bit_more k octet i h =
    let p = power_more 2 i in
    let at : 8 - i - 1 ≡ 7 - i = omega arith in
    let next : 8 - (i + 1) ≡ 7 - i = omega arith in
    let b : 2 * (octet / 2 ^ (8 - i)) + from_bool (nat_eq (bit_and (octet / 2 ^ (7 - i)) 1) 1) ≡ octet / 2 ^ (7 - i) =
    ap (λ j. 2 * (octet / 2 ^ (8 - i)) + from_bool (nat_eq (bit_and (octet / 2 ^ j) 1) 1)) (sym at)
    ∙ next_bit octet (8 - i) (omega arith) ∙ ap (λ j. octet / 2 ^ j) at in
    rw (p, next) (omega (arith, b))
