-- Products by Montgomery, modulo an odd number.
use Rattle.std.proofs.Common.{◌≡◌, ℕ, ◌+◌, ◌*◌, ◌/◌, ◌%◌, ◌^◌, ◌<◌, refl, ap, sym, ◌∙◌, zero, suc, arith}
use Rattle.std.proofs.Math.Nat.{add-mod_left, mod-eq_of_lt, mod-mod, pow-suc}
use Rattle.std.proofs.lemmas.Nat.{mul-pow, pow-mod, div-add-mod'}
use Rattle.big_numbers.proofs.Congruences.{same_mul, same_times}

power_of_one : (k : ℕ) → 1 ^ k ≡ 1
power_of_one zero = refl
power_of_one (suc k) = pow-suc 1 k ∙ ap (λ z. z * 1) (power_of_one k)

-- p may be left out on both sides
abbrev pub Cancels : ℕ → ℕ → Type 0
Cancels p n = (a b : ℕ) → (a * p) % n ≡ (b * p) % n → a % n ≡ b % n

one_to : (n z k : ℕ) → z % n ≡ 1 % n → z ^ k % n ≡ 1 % n
one_to n z k e = sym (pow-mod z k n) ∙ ap (λ y. y ^ k % n) e ∙ pow-mod 1 k n ∙ ap (λ y. y % n) (power_of_one k)

back : (n w g k a : ℕ) → (w * g) % n ≡ 1 % n → (a * w ^ k * g ^ k) % n ≡ a % n
back n w g k a e =
    ap (λ z. z % n) (let q : a * w ^ k * g ^ k ≡ a * (w ^ k * g ^ k) = omega arith in q)
    ∙ ap (λ z. (a * z) % n) (sym (mul-pow w g k))
    ∙ same_times n ((w * g) ^ k) 1 a (one_to n (w * g) k e)
    ∙ ap (λ z. z % n) (let q : a * 1 ≡ a = omega arith in q)

cancels_by : (n w g k : ℕ) → (w * g) % n ≡ 1 % n → Cancels (w ^ k) n
cancels_by n w g k e a b f = sym (back n w g k a e) ∙ same_mul n (a * w ^ k) (b * w ^ k) (g ^ k) f ∙ back n w g k b e

-- the inverse of 2, and of its power
base_inverse : (n j : ℕ) → n % 2 ≡ 1 → (2 ^ j * (n / 2 + 1) ^ j) % n ≡ 1 % n
base_inverse n j odd =
    ap (λ z. z % n) (sym (mul-pow 2 (n / 2 + 1) j))
    ∙ one_to n (2 * (n / 2 + 1)) j
    (ap (λ z. z % n) (let q : 2 * (n / 2 + 1) ≡ n + 1 = omega (arith, div-add-mod' n 2) in q) ∙ add-mod_left n 1)

pub cancels_base : (n k : ℕ) → n % 2 ≡ 1 → Cancels ((2 ^ 64) ^ k) n
cancels_base n k odd = cancels_by n (2 ^ 64) ((n / 2 + 1) ^ 64) k (base_inverse n 64 odd)

pub product_of_forms : (n p x y z a b : ℕ) → Cancels p n → z < n → (z * p) % n ≡ (x * y) % n
    → x ≡ (a * p) % n → y ≡ (b * p) % n → z ≡ (a * b * p) % n
product_of_forms n p x y z a b cancels h e f g =
    sym (mod-eq_of_lt h) ∙ cancels z (a * b * p) (
    e ∙ ap (λ v. (v * y) % n) f ∙ ap (λ v. ((a * p) % n * v) % n) g
    ∙ same_mul n ((a * p) % n) (a * p) ((b * p) % n) (mod-mod (a * p) n)
    ∙ same_times n ((b * p) % n) (b * p) (a * p) (mod-mod (b * p) n)
    ∙ ap (λ v. v % n) (let q : a * p * (b * p) ≡ a * b * p * p = omega arith in q))

-- the form of a number, by that of p
pub into_form : (n p x s z : ℕ) → Cancels p n → z < n → (z * p) % n ≡ (x * s) % n → x ≡ (p * p) % n → z ≡ (s * p) % n
into_form n p x s z cancels h e f =
    sym (mod-eq_of_lt h) ∙ cancels z (s * p) (
    e ∙ ap (λ v. (v * s) % n) f ∙ same_mul n ((p * p) % n) (p * p) s (mod-mod (p * p) n)
    ∙ ap (λ v. v % n) (let q : p * p * s ≡ s * p * p = omega arith in q))

-- and back
pub out_of_form : (n p x one z a : ℕ) → Cancels p n → z < n → (z * p) % n ≡ (x * one) % n → one ≡ 1 → x ≡ (a * p) % n
    → z ≡ a % n
out_of_form n p x one z a cancels h e o f =
    sym (mod-eq_of_lt h) ∙ cancels z a (
    e ∙ ap (λ v. (x * v) % n) o ∙ ap (λ v. v % n) (let q : x * 1 ≡ x = omega arith in q) ∙ ap (λ v. v % n) f
    ∙ mod-mod (a * p) n)

-- the product of a form and a number
pub half_product : (n p x y z a : ℕ) → Cancels p n → z < n → (z * p) % n ≡ (x * y) % n → x ≡ (a * p) % n
    → z ≡ (a * y) % n
half_product n p x y z a cancels h e f =
    sym (mod-eq_of_lt h) ∙ cancels z (a * y) (
    e ∙ ap (λ v. (v * y) % n) f ∙ same_mul n ((a * p) % n) (a * p) y (mod-mod (a * p) n)
    ∙ ap (λ v. v % n) (let q : a * p * y ≡ a * y * p = omega arith in q))
