-- Congruence modulo p: an equivalence that sums and products keep, and the step `combined`: an equation of
-- polynomials, which `omega` proves, carries one congruence to another.
use Rattle.std.proofs.Common.{◌≡◌, ℕ, ◌+◌, ◌*◌, ◌%◌, suc, zero, refl, sym, ◌∙◌, ap, arith}
use Rattle.std.proofs.Math.Nat.{add-mod, mod-zero, mul-add-mod_self_left}
use Rattle.std.proofs.lemmas.Nat.{mul-mod}
use Rattle.curve_points.specs.Residues.{Congruent}

pub same : (p a : ℕ) → Congruent p a a
same p a = record { same = refl }

pub equal : (p a b : ℕ) → a ≡ b → Congruent p a b
equal p a b e = record { same = ap (λ n. n % p) e }

pub turned : {p a b : ℕ} → Congruent p a b → Congruent p b a
turned h = record { same = sym h.same }

pub chained : {p a b c : ℕ} → Congruent p a b → Congruent p b c → Congruent p a c
chained h k = record { same = h.same ∙ k.same }

pub summed : {p a b c d : ℕ} → Congruent p a b → Congruent p c d → Congruent p (a + c) (b + d)
summed {p = p} {a = a} {b = b} {c = c} {d = d} h k = record {
  same = add-mod a c p ∙ ap (λ n. (n + c % p) % p) h.same ∙ ap (λ n. (b % p + n) % p) k.same ∙ sym (add-mod b d p);
}

pub multiplied : {p a b c d : ℕ} → Congruent p a b → Congruent p c d → Congruent p (a * c) (b * d)
multiplied {p = p} {a = a} {b = b} {c = c} {d = d} h k = record {
  same = mul-mod a c p ∙ ap (λ n. (n * (c % p)) % p) h.same ∙ ap (λ n. (b % p * n) % p) k.same ∙ sym (mul-mod b d p);
}

-- a congruence times a number
pub scaled : {p a b : ℕ} (c : ℕ) → Congruent p a b → Congruent p (c * a) (c * b)
scaled {p = p} c h = multiplied (same p c) h

pub multiple_left : (p k a : ℕ) → Congruent p (p * k + a) a
multiple_left p k a = record { same = mul-add-mod_self_left p k a }

-- what is added on both sides goes
pub cancelled : (p a b c : ℕ) → Congruent p (a + c) (b + c) → Congruent p a b
cancelled zero a b c h =
    record { same = ap (λ n. n % 0) (without (sym (mod-zero (a + c)) ∙ h.same ∙ mod-zero (b + c))) } where
      without : a + c ≡ b + c → a ≡ b
      without e = omega arith
cancelled (suc q) a b c h =
    chained (turned (multiple_left (suc q) c a))
    (chained (equal (suc q) (suc q * c + a) (a + c + q * c) (omega arith))
    (chained (summed h (same (suc q) (q * c)))
    (chained (equal (suc q) (b + c + q * c) (suc q * c + b) (omega arith))
    (multiple_left (suc q) c b))))

-- From l ~ r and the equation a + r = b + l: a ~ b
pub combined : {p l r : ℕ} (a b : ℕ) → Congruent p l r → a + r ≡ b + l → Congruent p a b
combined {p = p} {l = l} {r = r} a b h e =
    cancelled p a b r (chained (equal p (a + r) (b + l) e) (summed (same p b) h))

-- a unit as a factor of both sides goes
pub divided : (p u w a b : ℕ) → Congruent p (u * w) 1 → Congruent p (a * u) (b * u) → Congruent p a b
divided p u w a b hu h =
    let left : Congruent p (a * u * w) (a * 1) =
    chained (equal p (a * u * w) (a * (u * w)) (omega arith)) (scaled a hu) in
    let right : Congruent p (b * u * w) (b * 1) =
    chained (equal p (b * u * w) (b * (u * w)) (omega arith)) (scaled b hu) in
    chained (equal p a (a * 1) (omega arith))
    (chained (turned left) (chained (multiplied h (same p w)) (chained right (equal p (b * 1) b (omega arith)))))
