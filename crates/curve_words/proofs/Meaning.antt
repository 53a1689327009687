-- What words in Montgomery's form stand for, under the operations.
use Rattle.std.proofs.Common.{◌≡◌, ℕ, ◌+◌, ◌*◌, ◌%◌, ◌<◌, ◌↔◌, Bool, true, nat_eq, ap, sym, ◌∙◌, arith}
use Rattle.std.proofs.Math.Nat.{mod-mod, mod-lt}
use Rattle.std.proofs.lemmas.Bool.Decides.{nat_tests}
use Rattle.curve_points.specs.Residues.{Congruent}
use Rattle.curve_points.proofs.Congruence.{same, equal, turned, chained, summed, multiplied, scaled, combined}
use Rattle.curve_points.proofs.Units.{one_number, zero_left}
use Rattle.curve_words.specs.Forms.{meant, IsForm}

pub meant_is : (p u w : ℕ) → Congruent p (meant p u w) (w * u)
unfolding meant
meant_is p u w = record { same = mod-mod (w * u) p }

pub meant_below : (p u w : ℕ) → 0 < p → meant p u w < p
unfolding meant
meant_below p u w h = mod-lt (w * u) h

times_unit : (p u s r : ℕ) → Congruent p (s * u) 1 → Congruent p (r * u) (s * r * (u * u))
times_unit p u s r h = combined (r * u) (s * r * (u * u)) (scaled (r * u) (turned h)) (omega arith)

module _ (p u s : ℕ) (form : IsForm p u s) where
  pub below : (w : ℕ) → meant p u w < p
  below w = let large : 1 < p = form.large in meant_below p u w (omega arith)

  -- s r is a b
  pub of_product : (a b r : ℕ) → Congruent p (s * r) (a * b) → Congruent p (meant p u r) (meant p u a * meant p u b)
  of_product a b r h =
      chained (meant_is p u r)
      (chained (times_unit p u s r form.unit)
      (chained (multiplied h (same p (u * u)))
      (chained (equal p (a * b * (u * u)) (a * u * (b * u)) (omega arith))
      (multiplied (turned (meant_is p u a)) (turned (meant_is p u b))))))

  sum_of : (a b r : ℕ) → Congruent p r (a + b) → Congruent p (r * u) (a * u + b * u)
  sum_of a b r h = chained (multiplied h (same p u)) (equal p ((a + b) * u) (a * u + b * u) (omega arith))

  pub of_sum : (a b r : ℕ) → Congruent p r (a + b) → Congruent p (meant p u r) (meant p u a + meant p u b)
  of_sum a b r h =
      chained (meant_is p u r)
      (chained (sum_of a b r h) (summed (turned (meant_is p u a)) (turned (meant_is p u b))))

  pub of_difference : (a b r : ℕ) → Congruent p (r + b) a → Congruent p (meant p u r + meant p u b) (meant p u a)
  of_difference a b r h =
      chained (summed (meant_is p u r) (meant_is p u b))
      (chained (turned (sum_of r b a (turned h))) (turned (meant_is p u a)))

  unscaled : (a b : ℕ) → Congruent p (a * u) (b * u) → Congruent p a b
  unscaled a b h =
      combined a b (summed (scaled a (turned form.unit)) (summed (scaled s h) (scaled b form.unit))) (omega arith)

  -- words below p that stand for one number are the same
  pub one_meant : (a b : ℕ) → a < p → b < p → Congruent p (meant p u a) (meant p u b) → a ≡ b
  one_meant a b h k e =
      one_number p a b h k (unscaled a b (chained (turned (meant_is p u a)) (chained e (meant_is p u b))))

  pub is_same : (a b : ℕ) (t : Bool) → a < p → b < p → t ≡ nat_eq a b
      → (t ≡ true) ↔ Congruent p (meant p u a) (meant p u b)
  is_same a b t h k e = (
    (λ f. equal p (meant p u a) (meant p u b) (ap (meant p u) (equal_of a b (sym e ∙ f)))),
    (λ f. e ∙ tested a b (one_meant a b h k f)),
  ) where
    tested : (a b : ℕ) → a ≡ b → nat_eq a b ≡ true
    tested a b e = grind (arith, nat_tests)

    equal_of : (a b : ℕ) → nat_eq a b ≡ true → a ≡ b
    equal_of a b e = grind (arith, nat_tests)

  none_meant : meant p u 0 ≡ 0
  unfolding meant
  none_meant = let none : 0 * u ≡ 0 = omega arith in ap (λ n. n % p) none ∙ zero_left p form.large

  -- words below p that stand for 0 are 0
  pub is_zero : (a : ℕ) (t : Bool) → a < p → (t ≡ true) ↔ (a ≡ 0) → (t ≡ true) ↔ Congruent p (meant p u a) 0
  is_zero a t h e = (
    (λ f. equal p (meant p u a) 0 (ap (meant p u) (e.0 f) ∙ none_meant)),
    (λ f. e.1 (one_meant a 0 h (let large : 1 < p = form.large in omega arith)
        (chained f (equal p 0 (meant p u 0) (sym none_meant))))),
  )

  -- s r is k w, and k is s s
  pub of_scaled : (k w r : ℕ) → Congruent p (k * (u * u)) 1 → Congruent p (s * r) (k * w) → Congruent p (meant p u r) w
  of_scaled k w r g f =
      chained (meant_is p u r)
      (chained (times_unit p u s r form.unit)
      (chained (multiplied f (same p (u * u)))
      (chained (equal p (k * w * (u * u)) (w * (k * (u * u))) (omega arith))
      (chained (scaled w g) (equal p (w * 1) w (omega arith))))))

  pub of_scaled_below : (k w r : ℕ) → w < p → Congruent p (k * (u * u)) 1 → Congruent p (s * r) (k * w)
      → meant p u r ≡ w
  of_scaled_below k w r h g f = one_number p (meant p u r) w (below r) h (of_scaled k w r g f)

  -- s r is w
  pub of_words : (w r : ℕ) → r < p → Congruent p (s * r) (1 * w) → r ≡ meant p u w
  of_words w r b h =
      one_number p r (meant p u w) b (below w)
      (chained (combined r (w * u) (summed (scaled r (turned form.unit)) (scaled u h)) (omega arith))
      (turned (meant_is p u w)))
