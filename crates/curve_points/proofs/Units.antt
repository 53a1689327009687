-- Numbers that have an inverse modulo p, and numbers that show that p is no prime.
use Rattle.std.proofs.Common.{◌≡◌, ◌≢◌, ℕ, ◌+◌, ◌*◌, ◌-◌, ◌/◌, ◌%◌, ◌^◌, ◌<◌, ◌↔◌, Bool, true, false}
use Rattle.std.proofs.Common.{cond, nat_eq, suc, zero, refl, ap, sym, ◌∙◌, subst, arith}
use Rattle.std.proofs.Math.Nat.{mod-mod, mod-lt, mod-eq_of_lt, pow-succ'}
use Rattle.std.proofs.lemmas.Nat.{pow-mod}
use Rattle.std.proofs.lemmas.Bool.Decides.{nat_tests}
use Rattle.curve_points.specs.Residues.{Congruent, minus, found_below, inverse, IsUnit, IsWitness}
use Rattle.curve_points.proofs.Congruence.{same, equal, turned, chained, summed, multiplied, scaled, combined}
use Rattle.curve_points.proofs.Congruence.{multiple_left}

-- a number modulo p
pub remainder_is : (p n : ℕ) → Congruent p (n % p) n
remainder_is p n = record { same = mod-mod n p }

minus_sum : (p a b : ℕ) → 0 < p → a + (p - b % p) + b ≡ p * (1 + b / p) + a
minus_sum p a b h = omega arith

-- a - b + b
pub minus_is : (p a b : ℕ) → 0 < p → Congruent p (minus p a b + b) a
unfolding minus
minus_is p a b h =
    chained (equal p (a + (p - b % p) + b) (p * (1 + b / p) + a) (minus_sum p a b h)) (multiple_left p (1 + b / p) a)

-- 0 and 1 are apart
zero_is_one : (a b : ℕ) → a ≡ 0 → b ≡ 1 → a ≡ b → ⊥
zero_is_one a b h k e = omega arith

pub apart : (p : ℕ) → 1 < p → Congruent p 0 1 → ⊥
apart p h c = zero_is_one (0 % p) (1 % p) (mod-eq_of_lt (omega arith)) (mod-eq_of_lt (omega arith)) c.same

-- a number that leaves no remainder, and the other way round
pub zero_left : (p : ℕ) → 1 < p → 0 % p ≡ 0
zero_left p h = mod-eq_of_lt (omega arith)

pub none_left : (p n : ℕ) → 1 < p → Congruent p n 0 → n % p ≡ 0
none_left p n h c = c.same ∙ zero_left p h

pub is_none : (p n : ℕ) → 1 < p → n % p ≡ 0 → Congruent p n 0
is_none p n h e = record { same = e ∙ sym (zero_left p h) }

-- numbers below p that are congruent are the same
pub one_number : (p a b : ℕ) → a < p → b < p → Congruent p a b → a ≡ b
one_number p a b h k e = sym (mod-eq_of_lt h) ∙ e.same ∙ mod-eq_of_lt k

-- a factor of a unit is one
pub unit_factor : (p z a b : ℕ) → Congruent p z (a * b) → IsUnit p z → IsUnit p a
unit_factor p z a b h k = record {
  cofactor = b * k.cofactor;
  is_inverse =
      chained (equal p (a * (b * k.cofactor)) (a * b * k.cofactor) (omega arith))
      (chained (multiplied (turned h) (same p k.cofactor)) k.is_inverse);
}

pub other_factor : (p z a b : ℕ) → Congruent p z (a * b) → IsUnit p z → IsUnit p b
other_factor p z a b h k = unit_factor p z b a (chained h (equal p (a * b) (b * a) (omega arith))) k

pub unit_product : (p a b : ℕ) → IsUnit p a → IsUnit p b → IsUnit p (a * b)
unit_product p a b h k = record {
  cofactor = h.cofactor * k.cofactor;
  is_inverse =
      chained (equal p (a * b * (h.cofactor * k.cofactor)) (a * h.cofactor * (b * k.cofactor)) (omega arith))
      (multiplied h.is_inverse k.is_inverse);
}

pub unit_square : (p a : ℕ) → IsUnit p a → IsUnit p (a * a)
unit_square p a h = unit_product p a a h h

pub unit_cube : (p a : ℕ) → IsUnit p a → IsUnit p (a * a * a)
unit_cube p a h = unit_product p (a * a) a (unit_square p a h) h

-- a factor that is a unit goes
pub unit_goes : (p u a b : ℕ) → IsUnit p u → Congruent p (a * u) (b * u) → Congruent p a b
unit_goes p u a b k h =
    combined a b
    (summed (scaled a (turned k.is_inverse)) (summed (multiplied h (same p k.cofactor)) (scaled b k.is_inverse)))
    (omega arith)

-- what a unit takes to 0 is 0
pub unit_divides : (p u a : ℕ) → IsUnit p u → Congruent p (a * u) 0 → Congruent p a 0
unit_divides p u a k h = unit_goes p u a 0 k (chained h (equal p 0 (0 * u) (omega arith)))

-- a unit is not 0
pub unit_apart : (p a : ℕ) → 1 < p → IsUnit p a → Congruent p a 0 → ⊥
unit_apart p a big k h =
    apart p big
    (chained (equal p 0 (0 * k.cofactor) (omega arith))
    (chained (turned (multiplied h (same p k.cofactor))) k.is_inverse))

-- what a test finds
apart_by : (test : ℕ → Bool) (n i : ℕ) → test i ≡ true → test n ≡ false → i ≡ n → ⊥
apart_by test n i t e j = let k : test n ≡ true = subst (λ m. test m ≡ true) j t in cc

chosen : (test : ℕ → Bool) (n i : ℕ) (b : Bool) → test n ≡ b → i < suc n → test i ≡ true
    → (i < n → test (found_below test n) ≡ true) → test (cond b n (found_below test n)) ≡ true
chosen test n i true e h t f = e
chosen test n i false e h t f = let k : i ≢ n = apart_by test n i t e in f (omega arith)

found : (test : ℕ → Bool) (n i : ℕ) → i < n → test i ≡ true → test (found_below test n) ≡ true
unfolding found_below
found test zero i h t = absurd (omega arith)
found test (suc n) i h t = chosen test n i (test n) refl h t (λ k. found test n i k t)

pub tested : (a b : ℕ) → a ≡ b → nat_eq a b ≡ true
tested a b e = grind (arith, nat_tests)

equal_of : (a b : ℕ) → nat_eq a b ≡ true → a ≡ b
equal_of a b e = grind (arith, nat_tests)

pub untested : (a b : ℕ) → a ≢ b → nat_eq a b ≡ false
untested a b e = grind (arith, nat_tests)

-- a unit's inverse
pub inverse_is : (p a : ℕ) → 1 < p → IsUnit p a → Congruent p (a * inverse p a) 1
unfolding inverse
inverse_is p a h k =
    let small : 1 % p ≡ 1 = mod-eq_of_lt h in
    let works : Congruent p (a * (k.cofactor % p)) 1 =
    chained (scaled a (remainder_is p k.cofactor)) k.is_inverse in
    let seen : nat_eq ((a * found_below (λ i. nat_eq ((a * i) % p) 1) p) % p) 1 ≡ true =
    found (λ i. nat_eq ((a * i) % p) 1) p (k.cofactor % p) (mod-lt k.cofactor (omega arith))
    (tested _ 1 (works.same ∙ small)) in
    record { same = equal_of _ 1 seen ∙ sym small }

-- a number has one inverse
pub inverse_only : (p a b : ℕ) → 1 < p → Congruent p (a * b) 1 → Congruent p (inverse p a) b
inverse_only p a b h k =
    let found_one : Congruent p (a * inverse p a) 1 = inverse_is p a h (record { cofactor = b; is_inverse = k }) in
    combined (inverse p a) b (summed (scaled (inverse p a) (turned k)) (scaled b found_one)) (omega arith)

-- what a test says that answers no
pub denied : {A : Type 0} (b : Bool) → (b ≡ true) ↔ A → b ≡ false → A → ⊥
denied b h e a = let k : b ≡ true = h.1 a in cc

above_zero : (n : ℕ) → (n ≡ 0 → ⊥) → 0 < n
above_zero zero h = absurd (h refl)
above_zero (suc n) h = omega arith

one_less : (p e : ℕ) → e + 2 ≡ p → p - 1 ≡ suc e
one_less p e h = omega arith

last_power : (p a e : ℕ) → e + 2 ≡ p → a ^ (p - 1) ≡ a * a ^ e
last_power p a e h = ap (λ n. a ^ n) (one_less p e h) ∙ pow-succ' a e

-- a number whose power by p - 2 isn't its inverse
pub witness_is : (p a e i product one : ℕ) → 1 < p → e + 2 ≡ p → Congruent p i (a ^ e) → Congruent p product (a * i)
    → Congruent p one 1 → (Congruent p product one → ⊥) → (Congruent p a 0 → ⊥) → IsWitness p (a % p)
witness_is p a e i product one big is_e is_i is_product is_one not_one not_none = record {
  positive = above_zero (a % p) (λ k. not_none (is_none p a big k));
  below = mod-lt a (omega arith);
  fails = λ k. not_one
      (chained is_product
      (chained (scaled a is_i)
      (chained (equal p (a * a ^ e) (a ^ (p - 1)) (sym (last_power p a e is_e)))
      (chained (record { same = sym (pow-mod a (p - 1) p) ∙ k ∙ sym (mod-eq_of_lt big) }) (turned is_one)))));
}

-- an inverse that was tried
pub tried_is : (p a i product one : ℕ) → Congruent p product (a * i) → Congruent p one 1 → Congruent p product one
    → Congruent p (a * i) 1
tried_is p a i product one is_product is_one h = chained (turned is_product) (chained h is_one)
