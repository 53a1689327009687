-- What chords and tangents in Jacobian coordinates say of sums, where the last Z has an inverse.
use Rattle.std.proofs.Common.{◌≡◌, ◌≢◌, ℕ, ◌+◌, ◌*◌, ◌%◌, ◌<◌, Bool, true, false, cond, nat_eq}
use Rattle.std.proofs.Common.{refl, ap, sym, ◌∙◌, subst, arith}
use Rattle.std.proofs.Math.Nat.{mod-lt}
use Rattle.curve_points.specs.Residues.{Congruent, minus, inverse, IsUnit}
use Rattle.curve_points.specs.Points.{Point, infinity, affine, third_x, third_y, third, chord_slope, tangent_slope}
use Rattle.curve_points.specs.Points.{double, sum}
use Rattle.curve_points.specs.JacobianSteps.{IsAt, IsThird, IsChord, IsTangent, Doubles, Adds}
use Rattle.curve_points.specs.Standing.{IsPlaced}
use Rattle.curve_points.proofs.Congruence.{same, equal, turned, chained, summed, multiplied, scaled, combined}
use Rattle.curve_points.proofs.Units.{remainder_is, minus_is, none_left, is_none, one_number, unit_factor}
use Rattle.curve_points.proofs.Units.{unit_product, unit_square, unit_cube, unit_goes, unit_divides, unit_apart}
use Rattle.curve_points.proofs.Units.{tested, untested, inverse_is}

-- the third point of a line
third_is : (p x y s l : ℕ) → 0 < p → IsThird p x y s l (third_x p x s l) (third_y p x y l (third_x p x s l))
unfolding third_x third_y
third_is p x y s l h =
    let u : ℕ = minus p (minus p (l * l) x) s % p in
    let v : ℕ = minus p (l * minus p x u) y % p in
    record {
      next_x =
          combined (u + x + s) (l * l)
          (summed (remainder_is p (minus p (minus p (l * l) x) s))
          (summed (minus_is p (minus p (l * l) x) s h) (minus_is p (l * l) x h)))
          (omega arith);
      next_y =
          combined (v + y + l * u) (l * x)
          (summed (remainder_is p (minus p (l * minus p x u) y))
          (summed (minus_is p (l * minus p x u) y h) (scaled l (minus_is p x u h))))
          (omega arith);
    }

third_x_reduced : (p x s l : ℕ) → 0 < p → third_x p x s l < p
unfolding third_x
third_x_reduced p x s l h = mod-lt _ h

third_y_reduced : (p x y l u : ℕ) → 0 < p → third_y p x y l u < p
unfolding third_y
third_y_reduced p x y l u h = mod-lt _ h

chord_slope_is : (p x y s t : ℕ) → 1 < p → IsUnit p (minus p s x) → IsChord p x y s t (chord_slope p x y s t)
unfolding chord_slope
chord_slope_is p x y s t h k =
    let i : ℕ = inverse p (minus p s x) in
    combined (minus p t y * i * s + y) (minus p t y * i * x + t)
    (summed (scaled (minus p t y) (inverse_is p (minus p s x) h k))
    (summed (scaled (minus p t y * i) (turned (minus_is p s x (omega arith))))
    (minus_is p t y (omega arith))))
    (omega arith)

tangent_slope_is : (p x y : ℕ) → 1 < p → IsUnit p (2 * y) → IsTangent p x y (tangent_slope p x y)
unfolding tangent_slope
tangent_slope_is p x y h k =
    let i : ℕ = inverse p (2 * y) in
    combined (minus p (3 * (x * x)) 3 * i * (2 * y) + 3) (3 * (x * x))
    (summed (scaled (minus p (3 * (x * x)) 3) (inverse_is p (2 * y) h k)) (minus_is p (3 * (x * x)) 3 (omega arith)))
    (omega arith)

-- the cases of a sum
sum_at : (p x y s t : ℕ) (is_same is_opposite : Bool) → Point
sum_at p x y s t is_same is_opposite =
    cond is_same (cond is_opposite infinity (double p x y)) (third p x y s (chord_slope p x y s t))

double_at : (p x y : ℕ) (is_opposite : Bool) → Point
double_at p x y is_opposite = cond is_opposite infinity (third p x y x (tangent_slope p x y))

pub first_none : (p : ℕ) (P Q : Point) → P ≡ infinity → sum p P Q ≡ Q
unfolding sum
first_none p P Q e = ap (λ R. sum p R Q) e

right_none : (p : ℕ) (P : Point) → sum p P infinity ≡ P
unfolding sum
right_none p infinity = refl
right_none p (affine x y) = refl

pub second_none : (p : ℕ) (P Q : Point) → Q ≡ infinity → sum p P Q ≡ P
second_none p P Q e = ap (λ R. sum p P R) e ∙ right_none p P

sum_apart : (p x y s t : ℕ) → x ≢ s → sum p (affine x y) (affine s t) ≡ third p x y s (chord_slope p x y s t)
unfolding sum sum_at
sum_apart p x y s t h = ap (λ b. sum_at p x y s t b (nat_eq ((y + t) % p) 0)) (untested x s h)

sum_opposite : (p x y s t : ℕ) → x ≡ s → (y + t) % p ≡ 0 → sum p (affine x y) (affine s t) ≡ infinity
unfolding sum sum_at
sum_opposite p x y s t e f =
    ap (λ b. sum_at p x y s t b (nat_eq ((y + t) % p) 0)) (tested x s e)
    ∙ ap (sum_at p x y s t true) (tested ((y + t) % p) 0 f)

sum_double : (p x y s t : ℕ) → x ≡ s → (y + t) % p ≢ 0 → sum p (affine x y) (affine s t) ≡ double p x y
unfolding sum sum_at
sum_double p x y s t e f =
    ap (λ b. sum_at p x y s t b (nat_eq ((y + t) % p) 0)) (tested x s e)
    ∙ ap (sum_at p x y s t true) (untested ((y + t) % p) 0 f)

double_none : (p x y : ℕ) → (y + y) % p ≡ 0 → infinity ≡ double p x y
unfolding double double_at
double_none p x y e = sym (ap (double_at p x y) (tested ((y + y) % p) 0 e))

double_third : (p x y : ℕ) → (y + y) % p ≢ 0 → double p x y ≡ third p x y x (tangent_slope p x y)
unfolding double double_at
double_third p x y e = ap (double_at p x y) (untested ((y + y) % p) 0 e)

opposite_or_not : (p x y : ℕ) (b : Bool) → nat_eq ((y + y) % p) 0 ≡ b → cond b infinity (double p x y) ≡ double p x y
unfolding double double_at
opposite_or_not p x y true e = sym (ap (double_at p x y) e)
opposite_or_not p x y false e = refl

sum_self : (p x y : ℕ) → sum p (affine x y) (affine x y) ≡ double p x y
unfolding sum sum_at
sum_self p x y =
    ap (λ b. sum_at p x y x y b (nat_eq ((y + y) % p) 0)) (tested x x refl)
    ∙ opposite_or_not p x y (nat_eq ((y + y) % p) 0) refl

-- the tangent
module _ (p X Y Z A B C : ℕ) (big : 1 < p)
    (made_z : Congruent p C (2 * (Y * Z)))
    (made : Doubles p X Y Z A B C) where
  divisor : (x y : ℕ) → IsAt p X Y Z x y → IsUnit p C → IsUnit p (2 * y)
  divisor x y old unit =
      unit_factor p C (2 * y) (Z * Z * (Z * Z))
      (chained made_z
      (chained (scaled 2 (multiplied old.at_y (same p Z)))
      (equal p (2 * (y * (Z * Z * Z) * Z)) (2 * y * (Z * Z * (Z * Z))) (omega arith))))
      unit

  not_flat : (y : ℕ) → IsUnit p (2 * y) → (y + y) % p ≢ 0
  not_flat y unit e =
      unit_apart p (2 * y) big unit (chained (equal p (2 * y) (y + y) (omega arith)) (is_none p (y + y) big e))

  doubled_at : (x y : ℕ) → IsAt p X Y Z x y → IsUnit p C → IsPlaced p A B C (sum p (affine x y) (affine x y))
  doubled_at x y old unit =
      let l : ℕ = tangent_slope p x y in
      let by : IsUnit p (2 * y) = divisor x y old unit in
      record {
        u = third_x p x x l;
        v = third_y p x y l (third_x p x x l);
        is_point = sum_self p x y ∙ double_third p x y (not_flat y by);
        is_at = made x y l (third_x p x x l) (third_y p x y l (third_x p x x l)) old (tangent_slope_is p x y big by)
            (third_is p x y x l (omega arith));
        first_reduced = third_x_reduced p x x l (omega arith);
        second_reduced = third_y_reduced p x y l (third_x p x x l) (omega arith);
      }

  pub doubled_unit : IsUnit p C → IsUnit p Z
  doubled_unit unit =
      unit_factor p C Z (2 * Y) (chained made_z (equal p (2 * (Y * Z)) (Z * (2 * Y)) (omega arith))) unit

  -- the double, where it is not infinity
  pub placed_double : (P : Point) → (IsUnit p Z → IsPlaced p X Y Z P) → IsUnit p C → IsPlaced p A B C (sum p P P)
  placed_double P held unit =
      let old : IsPlaced p X Y Z P = held (doubled_unit unit) in
      subst (λ R. IsPlaced p A B C (sum p R R)) (sym old.is_point) (doubled_at old.u old.v old.is_at unit)

  flat_height : (x y : ℕ) → IsAt p X Y Z x y → IsUnit p Z → Congruent p C 0 → Congruent p (y + y) 0
  flat_height x y old unit none =
      unit_divides p (Z * Z * (Z * Z)) (y + y) (unit_square p (Z * Z) (unit_square p Z unit))
      (combined ((y + y) * (Z * Z * (Z * Z))) 0
      (summed (turned (scaled 2 (multiplied old.at_y (same p Z)))) (summed (turned made_z) none))
      (omega arith))

  -- the double, where it is infinity
  pub flat_double : (P : Point) → (IsUnit p Z → IsPlaced p X Y Z P) → Congruent p C 0 → IsUnit p Z
      → sum p P P ≡ infinity
  flat_double P held none unit =
      let old : IsPlaced p X Y Z P = held unit in
      ap (λ R. sum p R R) old.is_point
      ∙ sum_self p old.u old.v
      ∙ sym (double_none p old.u old.v (none_left p (old.v + old.v) big (flat_height old.u old.v old.is_at unit none)))

-- the chord
module _ (p X Y Z A B C U V W h : ℕ) (big : 1 < p)
    (made_h : Congruent p (h + X * (C * C)) (A * (Z * Z)))
    (made_z : Congruent p W (h * (Z * C))) where
  h_is : (x y s t : ℕ) → IsAt p X Y Z x y → IsAt p A B C s t → Congruent p h (minus p s x * (Z * Z * (C * C)))
  h_is x y s t old other =
      combined h (minus p s x * (Z * Z * (C * C)))
      (summed made_h
      (summed (multiplied other.at_x (same p (Z * Z)))
      (summed (turned (multiplied old.at_x (same p (C * C))))
      (scaled (Z * Z * (C * C)) (turned (minus_is p s x (omega arith)))))))
      (omega arith)

  chord_divisor : (x y s t : ℕ) → IsAt p X Y Z x y → IsAt p A B C s t → IsUnit p W → IsUnit p (minus p s x)
  chord_divisor x y s t old other unit =
      unit_factor p W (minus p s x) (Z * Z * (C * C) * (Z * C))
      (chained made_z
      (chained (multiplied (h_is x y s t old other) (same p (Z * C)))
      (equal p (minus p s x * (Z * Z * (C * C)) * (Z * C)) (minus p s x * (Z * Z * (C * C) * (Z * C))) (omega arith))))
      unit

  not_same : (x s : ℕ) → IsUnit p (minus p s x) → x ≢ s
  not_same x s unit e =
      unit_apart p (minus p s x) big unit (combined (minus p s x) 0 (minus_is p s x (omega arith)) (omega arith))

  added_at : (x y s t : ℕ) → Adds p X Y Z A B C U V W → IsAt p X Y Z x y → IsAt p A B C s t → IsUnit p W
      → IsPlaced p U V W (sum p (affine x y) (affine s t))
  added_at x y s t made old other unit =
      let l : ℕ = chord_slope p x y s t in
      let by : IsUnit p (minus p s x) = chord_divisor x y s t old other unit in
      record {
        u = third_x p x s l;
        v = third_y p x y l (third_x p x s l);
        is_point = sum_apart p x y s t (not_same x s by);
        is_at = made x y s t l (third_x p x s l) (third_y p x y l (third_x p x s l)) (minus p s x) old other
            (minus_is p s x (omega arith)) (chord_slope_is p x y s t big by) (third_is p x y s l (omega arith));
        first_reduced = third_x_reduced p x s l (omega arith);
        second_reduced = third_y_reduced p x y l (third_x p x s l) (omega arith);
      }

  first_unit : IsUnit p W → IsUnit p Z
  first_unit unit = unit_factor p W Z (h * C) (chained made_z (equal p (h * (Z * C)) (Z * (h * C)) (omega arith))) unit

  second_unit : IsUnit p W → IsUnit p C
  second_unit unit = unit_factor p W C (h * Z) (chained made_z (equal p (h * (Z * C)) (C * (h * Z)) (omega arith))) unit

  -- the sum of two points with different first coordinates
  pub placed_sum : (P Q : Point) → Adds p X Y Z A B C U V W → (IsUnit p Z → IsPlaced p X Y Z P)
      → (IsUnit p C → IsPlaced p A B C Q) → IsUnit p W → IsPlaced p U V W (sum p P Q)
  placed_sum P Q made held held_other unit =
      let old : IsPlaced p X Y Z P = held (first_unit unit) in
      let other : IsPlaced p A B C Q = held_other (second_unit unit) in
      subst (λ R. IsPlaced p U V W (sum p R Q)) (sym old.is_point)
      (subst (λ R. IsPlaced p U V W (sum p (affine old.u old.v) R)) (sym other.is_point)
      (added_at old.u old.v other.u other.v made old.is_at other.is_at unit))

  module _ (none : Congruent p W 0) (unit : IsUnit p Z) (unit_other : IsUnit p C) where
    h_none : Congruent p h 0
    h_none = unit_divides p (Z * C) h (unit_product p Z C unit unit_other) (chained (turned made_z) none)

    same_x : (x y s t : ℕ) → IsAt p X Y Z x y → IsAt p A B C s t → Congruent p x s
    same_x x y s t old other =
        unit_goes p (Z * Z * (C * C)) x s
        (unit_product p (Z * Z) (C * C) (unit_square p Z unit) (unit_square p C unit_other))
        (combined (x * (Z * Z * (C * C))) (s * (Z * Z * (C * C)))
        (summed (turned (multiplied old.at_x (same p (C * C))))
        (summed made_h (summed (turned h_none) (multiplied other.at_x (same p (Z * Z))))))
        (omega arith))

    heights : (x y s t : ℕ) → IsAt p X Y Z x y → IsAt p A B C s t
        → Congruent p (Y * (C * C * C) + B * (Z * Z * Z)) ((y + t) * (Z * Z * Z * (C * C * C)))
    heights x y s t old other =
        combined (Y * (C * C * C) + B * (Z * Z * Z)) ((y + t) * (Z * Z * Z * (C * C * C)))
        (summed (multiplied old.at_y (same p (C * C * C))) (multiplied other.at_y (same p (Z * Z * Z))))
        (omega arith)

    opposite_y : (x y s t : ℕ) → IsAt p X Y Z x y → IsAt p A B C s t
        → Congruent p (Y * (C * C * C) + B * (Z * Z * Z)) 0 → Congruent p (y + t) 0
    opposite_y x y s t old other e =
        unit_divides p (Z * Z * Z * (C * C * C)) (y + t)
        (unit_product p (Z * Z * Z) (C * C * C) (unit_cube p Z unit) (unit_cube p C unit_other))
        (chained (turned (heights x y s t old other)) e)

    not_opposite_y : (x y s t : ℕ) → IsAt p X Y Z x y → IsAt p A B C s t
        → (Congruent p (Y * (C * C * C) + B * (Z * Z * Z)) 0 → ⊥) → (y + t) % p ≢ 0
    not_opposite_y x y s t old other n e =
        n (chained (heights x y s t old other)
        (chained (multiplied (is_none p (y + t) big e) (same p (Z * Z * Z * (C * C * C))))
        (equal p (0 * (Z * Z * Z * (C * C * C))) 0 (omega arith))))

    -- the sum of two opposite points
    pub opposite_sum : (P Q : Point) → IsPlaced p X Y Z P → IsPlaced p A B C Q
        → Congruent p (Y * (C * C * C) + B * (Z * Z * Z)) 0 → sum p P Q ≡ infinity
    opposite_sum P Q old other e =
        ap (λ R. sum p R Q) old.is_point ∙ ap (λ R. sum p (affine old.u old.v) R) other.is_point
        ∙ sum_opposite p old.u old.v other.u other.v
        (one_number p old.u other.u old.first_reduced other.first_reduced
        (same_x old.u old.v other.u other.v old.is_at other.is_at))
        (none_left p (old.v + other.v) big (opposite_y old.u old.v other.u other.v old.is_at other.is_at e))

    -- the sum of a point and itself
    pub same_sum : (P Q : Point) → IsPlaced p X Y Z P → IsPlaced p A B C Q
        → (Congruent p (Y * (C * C * C) + B * (Z * Z * Z)) 0 → ⊥) → sum p P Q ≡ sum p P P
    same_sum P Q old other n =
        ap (λ R. sum p R Q) old.is_point ∙ ap (λ R. sum p (affine old.u old.v) R) other.is_point
        ∙ sum_double p old.u old.v other.u other.v
        (one_number p old.u other.u old.first_reduced other.first_reduced
        (same_x old.u old.v other.u other.v old.is_at other.is_at))
        (not_opposite_y old.u old.v other.u other.v old.is_at other.is_at n)
        ∙ sym (sum_self p old.u old.v)
        ∙ sym (ap (λ R. sum p R R) old.is_point)
