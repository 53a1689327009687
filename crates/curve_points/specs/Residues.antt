-- Numbers modulo p. A number stands for all that leave its remainder.
use Rattle.std.specs.Prelude.{◌≡◌, ℕ, zero, suc, ◌+◌, ◌*◌, ◌-◌, ◌%◌, ◌^◌, ◌<◌, Bool, cond, nat_eq}

-- a and b leave one remainder.
pub record Congruent (p a b : ℕ) : Type 0 where
  pub same : a % p ≡ b % p

-- a - b
unfoldable pub minus : (p a b : ℕ) → ℕ
minus p a b = a + (p - b % p)

-- a number below n at which the test is true, or 0 if there is none
unfoldable pub found_below : (ℕ → Bool) → ℕ → ℕ
found_below test zero = 0
found_below test (suc n) = cond (test n) n (found_below test n)

-- the inverse of a: the number below p that a times is 1
unfoldable pub inverse : (p a : ℕ) → ℕ
inverse p a = found_below (λ i. nat_eq ((a * i) % p) 1) p

-- A number that has an inverse.
pub record IsUnit (p a : ℕ) : Type 0 where
  pub cofactor : ℕ
  pub is_inverse : Congruent p (a * cofactor) 1

-- A number that shows that p is no prime: if p is one, each number from 1 to p - 1 has 1 as its power by p - 1
-- (Fermat's little theorem; Fermat witnesses, Handbook of Applied Cryptography 4.2.1).
pub record IsWitness (p a : ℕ) : Type 0 where
  pub positive : 0 < a
  pub below : a < p
  pub fails : (a ^ (p - 1)) % p ≡ 1 → ⊥

-- There is such a number.
abbrev pub HasWitness : (p : ℕ) → Type 0
HasWitness p = (a : ℕ) × IsWitness p a
