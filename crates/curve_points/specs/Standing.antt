-- What Jacobian coordinates stand for.
use Rattle.std.specs.Prelude.{◌≡◌, ℕ, ◌<◌, Bool, true, false}
use Rattle.curve_points.specs.Residues.{Congruent, IsUnit}
use Rattle.curve_points.specs.Points.{Point, infinity, affine}
use Rattle.curve_points.specs.JacobianSteps.{IsAt}
use Rattle.curve_points.specs.declared.jacobian.Jacobian.{Jacobian}
use Rattle.curve_points.specs.declared.affine.Affine.{Affine}
use Rattle.curve_points.specs.declared.affine.Affine.TheVariants as place

-- The coordinates are those of the point, a pair of numbers below p.
pub record IsPlaced (p X Y Z : ℕ) (P : Point) : Type 0 where
  pub u : ℕ
  pub v : ℕ
  pub is_point : P ≡ affine u v
  pub is_at : IsAt p X Y Z u v
  pub first_reduced : u < p
  pub second_reduced : v < p

-- The same, or the point is infinity.
abbrev pub IsInPlace : Bool → (p X Y Z : ℕ) → Point → Type 0
IsInPlace true p X Y Z P = P ≡ infinity
IsInPlace false p X Y Z P = IsPlaced p X Y Z P

-- The coordinates stand for the point: Z isn't 0, and if it has an inverse, they are those of the point.
pub record Stands (p : ℕ) (is_infinite : Bool) (X Y Z : ℕ) (P : Point) : Type 0 where
  pub apart : Congruent p Z 0 → ⊥
  pub in_place : IsUnit p Z → IsInPlace is_infinite p X Y Z P

-- A value of the code stands for the point.
abbrev pub StandsFor : {F : Type 0} (p : ℕ) (value : F → ℕ) → Jacobian F → Point → Type 0
StandsFor p value a P = Stands p a.is_infinite (value a.x) (value a.y) (value a.z) P

-- the point of a value of the code
abbrev pub point_of : {F : Type 0} (value : F → ℕ) → Affine F → Point
point_of value place.Infinity = infinity
point_of value (place.At x y) = affine (value x) (value y)
