-- What the code's values stand for, from what their parts do.
use Rattle.std.proofs.Common.{◌≡◌, ℕ, ◌*◌, ◌<◌, Bool, true, false, refl, ap, sym, ◌∙◌, subst, arith}
use Rattle.curve_points.specs.Residues.{Congruent, IsUnit}
use Rattle.curve_points.specs.Points.{Point, infinity, affine}
use Rattle.curve_points.specs.JacobianSteps.{IsAt}
use Rattle.curve_points.specs.Standing.{IsPlaced, IsInPlace, Stands}
use Rattle.curve_points.proofs.Congruence.{same, equal, turned, chained, summed, multiplied, scaled, combined}
use Rattle.curve_points.proofs.Units.{unit_factor, other_factor, unit_divides, one_number, apart}

pub in_none : (p X Y Z : ℕ) (b : Bool) (P : Point) → b ≡ true → IsInPlace b p X Y Z P → P ≡ infinity
in_none p X Y Z b P e h = subst (λ c. IsInPlace c p X Y Z P) e h

pub in_placed : (p X Y Z : ℕ) (b : Bool) (P : Point) → b ≡ false → IsInPlace b p X Y Z P → IsPlaced p X Y Z P
in_placed p X Y Z b P e h = subst (λ c. IsInPlace c p X Y Z P) e h

pub at_point : (p X Y Z : ℕ) (b : Bool) (P Q : Point) → P ≡ Q → IsInPlace b p X Y Z P → IsInPlace b p X Y Z Q
at_point p X Y Z b P Q e h = subst (λ R. IsInPlace b p X Y Z R) e h

pub stands_none : (p X Y Z A : ℕ) (b : Bool) (P : Point) → b ≡ true → A ≡ Z → (Congruent p Z 0 → ⊥)
    → (IsUnit p Z → P ≡ infinity) → Stands p b X Y A P
stands_none p X Y Z A b P e f not_none held = record {
  apart = λ h. not_none (chained (equal p Z A (sym f)) h);
  in_place = λ unit. subst (λ c. IsInPlace c p X Y A P) (sym e) (held (subst (λ n. IsUnit p n) f unit));
}

pub stands_placed : (p X Y Z : ℕ) (b : Bool) (P : Point) → b ≡ false → (Congruent p Z 0 → ⊥)
    → (IsUnit p Z → IsPlaced p X Y Z P) → Stands p b X Y Z P
stands_placed p X Y Z b P e not_none held = record {
  apart = not_none;
  in_place = λ unit. subst (λ c. IsInPlace c p X Y Z P) (sym e) (held unit);
}

-- a point with 1 as its third coordinate
pub first_placed : (p x y one : ℕ) → 1 < p → x < p → y < p → Congruent p one 1 → Stands p false x y one (affine x y)
first_placed p x y one big small_x small_y is_one = record {
  apart = λ h. apart p big (chained (turned h) is_one);
  in_place = λ unit. record {
    u = x;
    v = y;
    is_point = refl;
    is_at = record {
      at_x =
          combined x (x * (one * one)) (scaled x (turned (multiplied is_one is_one))) (omega arith);
      at_y =
          combined y (y * (one * one * one)) (scaled y (turned (multiplied (multiplied is_one is_one) is_one)))
          (omega arith);
    };
    first_reduced = small_x;
    second_reduced = small_y;
  };
}

-- one more divisor
module _ (p X Y Z L W : ℕ) (b : Bool) (P : Point)
    (not_z : Congruent p Z 0 → ⊥)
    (not_l : Congruent p L 0 → ⊥)
    (held : IsUnit p Z → IsUnit p L → IsInPlace b p X Y Z P)
    (is_w : Congruent p W (Z * L)) where
  pub not_widened : (c : Bool) (A B C : ℕ) → Congruent p W 0 → C ≡ Z → Stands p c A B C P
  not_widened c A B C none e = record {
    apart = λ h. not_z (chained (equal p Z C (sym e)) h);
    in_place = λ unit. absurd (not_l
        (unit_divides p Z L (subst (λ n. IsUnit p n) e unit)
        (chained (equal p (L * Z) (Z * L) (omega arith)) (chained (turned is_w) none))));
  }

  module _ (square cube A B : ℕ)
      (is_square : Congruent p square (L * L))
      (is_cube : Congruent p cube (square * L))
      (is_a : Congruent p A (X * square))
      (is_b : Congruent p B (Y * cube)) where
    widened_at : (x y : ℕ) → IsAt p X Y Z x y → IsAt p A B W x y
    widened_at x y at = record {
      at_x =
          combined A (x * (W * W))
          (summed is_a
          (summed (scaled X is_square)
          (summed (multiplied at.at_x (same p (L * L))) (scaled x (turned (multiplied is_w is_w))))))
          (omega arith);
      at_y =
          combined B (y * (W * W * W))
          (summed is_b
          (summed (scaled Y is_cube)
          (summed (scaled (Y * L) is_square)
          (summed (multiplied at.at_y (same p (L * L * L)))
          (scaled y (turned (multiplied (multiplied is_w is_w) is_w)))))))
          (omega arith);
    }

    widened_in : (c : Bool) → IsInPlace c p X Y Z P → IsInPlace c p A B W P
    widened_in true h = h
    widened_in false h = record {
      u = h.u;
      v = h.v;
      is_point = h.is_point;
      is_at = widened_at h.u h.v h.is_at;
      first_reduced = h.first_reduced;
      second_reduced = h.second_reduced;
    }

    pub widened_stands : (Congruent p W 0 → ⊥) → Stands p b A B W P
    widened_stands not_none = record {
      apart = not_none;
      in_place = λ unit. widened_in b (held (unit_factor p W Z L is_w unit) (other_factor p W Z L is_w unit));
    }

-- the height of a point at the other's third coordinate
pub height_is : (p Y C cc ccc left : ℕ) → Congruent p cc (C * C) → Congruent p ccc (cc * C)
    → Congruent p left (Y * ccc) → Congruent p left (Y * (C * C * C))
height_is p Y C cc ccc left is_cc is_ccc is_left =
    chained is_left (scaled Y (chained is_ccc (multiplied is_cc (same p C))))

-- X / Z^2 and Y / Z^3
pub affine_is : (p X Y Z i square cube x y : ℕ) (P : Point) → x < p → y < p → Congruent p (Z * i) 1
    → Congruent p square (i * i) → Congruent p cube (square * i) → Congruent p x (X * square) → Congruent p y (Y * cube)
    → IsPlaced p X Y Z P → P ≡ affine x y
affine_is p X Y Z i square cube x y P small_x small_y inverts is_square is_cube is_x is_y at =
    let same_x : at.u ≡ x =
    one_number p at.u x at.first_reduced small_x
    (turned (chained is_x
    (chained (multiplied at.is_at.at_x is_square)
    (chained (equal p (at.u * (Z * Z) * (i * i)) (at.u * (Z * i * (Z * i))) (omega arith))
    (chained (scaled at.u (multiplied inverts inverts)) (equal p (at.u * (1 * 1)) at.u (omega arith))))))) in
    let same_y : at.v ≡ y =
    one_number p at.v y at.second_reduced small_y
    (turned (chained is_y
    (chained (multiplied at.is_at.at_y (chained is_cube (multiplied is_square (same p i))))
    (chained (equal p (at.v * (Z * Z * Z) * (i * i * i)) (at.v * (Z * i * (Z * i) * (Z * i))) (omega arith))
    (chained (scaled at.v (multiplied (multiplied inverts inverts) inverts))
    (equal p (at.v * (1 * 1 * 1)) at.v (omega arith))))))) in
    at.is_point ∙ ap (λ n. affine n at.v) same_x ∙ ap (λ n. affine x n) same_y

pub stands_at : (p X Y Z : ℕ) (b : Bool) (P Q : Point) → P ≡ Q → Stands p b X Y Z P → Stands p b X Y Z Q
stands_at p X Y Z b P Q e h = subst (λ R. Stands p b X Y Z R) e h
