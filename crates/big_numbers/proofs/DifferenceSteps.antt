-- The arithmetic of a comparison, of a difference, and of a rest.
use Rattle.std.proofs.Common.{◌≡◌, ℕ, ◌+◌, ◌*◌, ◌%◌, ◌^◌, ◌<◌, ◌≤◌, ◌⊎◌, ◌↔◌, Bool, true, false, List, length, get_or}
use Rattle.std.proofs.Common.{set, take, ap, sym, ◌∙◌, inl, inr, zero, suc, arith}
use Rattle.std.specs.Int.{from_bool}
use Rattle.std.proofs.Math.Nat.{mul-le-mul_left, add-mod_right, mod-eq_of_lt}
use Rattle.std.proofs.lemmas.Bool.{cases_order}
use Rattle.big_numbers.specs.Numbers.{value}
use Rattle.big_numbers.proofs.Values.{value_more, value_more_set, value_take_below, power_more}

-- a higher word decides
higher_less : (p x y v u : ℕ) → v < p → x < y → v + p * x < u + p * y
higher_less p x y v u h l =
    let m : p * (x + 1) ≤ p * y = mul-le-mul_left p (let k : x + 1 ≤ y = omega arith in k) in omega arith

less_from : (p x y v u : ℕ) → v < p → (x < y) ⊎ ((x ≡ y) × (v < u)) → v + p * x < u + p * y
less_from p x y v u h (inl l) = higher_less p x y v u h l
less_from p x y v u h (inr e) = let m : p * x ≡ p * y = ap (λ z. p * z) e.0 in let k : v < u = e.1 in omega arith

less_to : (p x y v u : ℕ) → u < p → v + p * x < u + p * y → (x < y) ⊎ ((x ≡ y) × (v < u))
less_to p x y v u g l = elim (cases_order x y) [
  | inl e ↦ inr (e, let m : p * x ≡ p * y = ap (λ z. p * z) e in omega arith)
  | inr o ↦ elim o [
    | inl k ↦ inl k
    | inr k ↦ absurd (let m : u + p * y < v + p * x = higher_less p y x u v g k in omega arith)
  ]
]

pub less_goes_on : (a b : List ℕ) (i : ℕ) (before after : Type 0) → i < length a → length b ≡ length a
    → ((k : ℕ) → get_or a k 0 < 2 ^ 64) → ((k : ℕ) → get_or b k 0 < 2 ^ 64)
    → (before ↔ (value (take i a) < value (take i b)))
    → (after ↔ ((get_or a i 0 < get_or b i 0) ⊎ ((get_or a i 0 ≡ get_or b i 0) × before)))
    → (after ↔ (value (take (i + 1) a) < value (take (i + 1) b)))
less_goes_on a b i before after h e fa fb was is =
    let va = value_more a i h in
    let vb = value_more b i (omega arith) in
    let p : ℕ = (2 ^ 64) ^ i in
    rw (va, vb) (
      λ yes. less_from p (get_or a i 0) (get_or b i 0) (value (take i a)) (value (take i b)) (value_take_below i a fa)
          (elim (is.0 yes) [ inl l ↦ inl l | inr q ↦ inr (q.0, was.0 q.1) ]),
      λ l. is.1 (elim (less_to p (get_or a i 0) (get_or b i 0) (value (take i a)) (value (take i b))
          (value_take_below i b fb) l)
          [ inl k ↦ inl k | inr q ↦ inr (q.0, was.1 q.1) ]),
    )

word_off : (w p v n u b c word x y : ℕ) → v + n ≡ u + p * b → word + x + b ≡ y + c * w
    → v + p * word + (n + p * x) ≡ u + p * y + p * w * c
word_off w p v n u b c word x y e f = let m : p * (word + x + b) ≡ p * (y + c * w) = ap (λ z. p * z) f in omega arith

pub difference_goes_on : (t u n : List ℕ) (i b c word : ℕ) → i < length u → length t ≡ length u → length n ≡ length u
    → value (take i t) + value (take i n) ≡ value (take i u) + (2 ^ 64) ^ i * b
    → word + get_or n i 0 + b ≡ get_or u i 0 + c * 2 ^ 64
    → value (take (i + 1) (set t i word)) + value (take (i + 1) n) ≡ value (take (i + 1) u) + (2 ^ 64) ^ (i + 1) * c
difference_goes_on t u n i b c word h lt ln e f =
    let vt = value_more_set t i word (omega arith) in
    let vu = value_more u i h in
    let vn = value_more n i (omega arith) in
    let p = power_more (2 ^ 64) i in
    rw (vt, vu, vn, p)
    (word_off (2 ^ 64) ((2 ^ 64) ^ i) (value (take i t)) (value (take i n)) (value (take i u)) b c word
    (get_or n i 0) (get_or u i 0) e f)

rest_is : (v n s : ℕ) → v + n ≡ s → s < 2 * n → v ≡ s % n
rest_is v n s e h = let l : v < n = omega arith in sym (mod-eq_of_lt l) ∙ sym (add-mod_right v n) ∙ ap (λ z. z % n) e

pub rest_after : (t p top n v : ℕ) (b : Bool) → v < p → n < p → t + p * top < 2 * n → (0 < top) ⊎ (n ≤ t)
    → v + n ≡ t + p * from_bool b → v ≡ (t + p * top) % n
rest_after t p zero n v false f g h large e = rest_is v n (t + p * zero) (omega arith) h
rest_after t p zero n v true f g h (inl l) e = absurd (omega arith)
rest_after t p zero n v true f g h (inr l) e = absurd (omega arith)
rest_after t p (suc top) n v false f g h large e = absurd (omega arith)
rest_after t p (suc zero) n v true f g h large e = rest_is v n (t + p * suc zero) (omega arith) h
rest_after t p (suc (suc top)) n v true f g h large e = absurd (omega arith)
