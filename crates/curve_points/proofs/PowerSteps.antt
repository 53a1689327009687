-- Powers by the bits of the exponent.
use Rattle.std.proofs.Common.{◌≡◌, ℕ, ◌+◌, ◌*◌, ◌^◌, Bool, true, false, cond, sym, ap, ◌∙◌, arith}
use Rattle.std.proofs.Math.Nat.{pow-suc, pow-zero}
use Rattle.std.proofs.lemmas.Nat.{pow-add}
use Rattle.curve_points.specs.Residues.{Congruent}
use Rattle.curve_points.proofs.Congruence.{same, equal, chained, multiplied}

twice_power : (a m : ℕ) → a ^ (2 * m + 0) ≡ a ^ m * a ^ m
twice_power a m = let e : 2 * m + 0 ≡ m + m = omega arith in ap (λ n. a ^ n) e ∙ pow-add a m m

once : (a : ℕ) → 1 * a ≡ a
once a = omega arith

one_power : (a : ℕ) → a ^ 1 ≡ a
one_power a = pow-suc a 0 ∙ ap (λ n. n * a) (pow-zero a) ∙ once a

once_more_power : (a m : ℕ) → a ^ (2 * m + 1) ≡ a ^ m * a ^ m * a
once_more_power a m =
    let e : 2 * m + 1 ≡ m + m + 1 = omega arith in
    ap (λ n. a ^ n) e ∙ pow-add a (m + m) 1 ∙ ap (λ n. n * a ^ 1) (pow-add a m m)
    ∙ ap (λ n. a ^ m * a ^ m * n) (one_power a)

pub squared : (p a m now square : ℕ) → Congruent p square (now * now) → Congruent p now (a ^ m)
    → Congruent p square (a ^ (2 * m + 0))
squared p a m now square is_square h =
    chained is_square (chained (multiplied h h) (equal p (a ^ m * a ^ m) (a ^ (2 * m + 0)) (sym (twice_power a m))))

pub squared_once_more : (p a m now square r : ℕ) → Congruent p square (now * now) → Congruent p r (square * a)
    → Congruent p now (a ^ m) → Congruent p r (a ^ (2 * m + 1))
squared_once_more p a m now square r is_square is_r h =
    chained is_r
    (chained (multiplied (chained is_square (multiplied h h)) (same p a))
    (equal p (a ^ m * a ^ m * a) (a ^ (2 * m + 1)) (sym (once_more_power a m))))

-- a power by an equal exponent
pub at_exponent : (p a r k l : ℕ) → k ≡ l → Congruent p r (a ^ k) → Congruent p r (a ^ l)
at_exponent p a r k l e h = chained h (equal p (a ^ k) (a ^ l) (ap (λ n. a ^ n) e))

pub bit_set : (p a m r : ℕ) (bit : Bool) → bit ≡ true → Congruent p r (a ^ (2 * m + 1))
    → Congruent p r (a ^ (2 * m + cond bit 1 0))
bit_set p a m r bit e h = at_exponent p a r (2 * m + 1) _ (ap (λ b. 2 * m + cond b 1 0) (sym e)) h

pub bit_not_set : (p a m r : ℕ) (bit : Bool) → bit ≡ false → Congruent p r (a ^ (2 * m + 0))
    → Congruent p r (a ^ (2 * m + cond bit 1 0))
bit_not_set p a m r bit e h = at_exponent p a r (2 * m + 0) _ (ap (λ b. 2 * m + cond b 1 0) (sym e)) h
