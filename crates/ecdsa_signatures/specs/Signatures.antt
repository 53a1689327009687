-- Signatures of ECDSA (FIPS 186-5 6.4.2) on the curves y^2 = x^3 - 3 x + b.
use Rattle.std.specs.Prelude.{ℕ, ◌*◌, ◌%◌, Bool, false, ◌&&◌, nat_eq, nat_lt}
use Rattle.curve_points.specs.Residues.{inverse}
use Rattle.curve_points.specs.Points.{Point, infinity, affine, is_on_curve, sum, multiple}

-- The domain parameters of a curve (SEC 1 3.1.1): the prime p of its field, b, the base point and its order n, a prime
-- of so many bits.
pub record Parameters : Type 0 where
  pub p : ℕ
  pub b : ℕ
  pub base_x : ℕ
  pub base_y : ℕ
  pub n : ℕ
  pub bits : ℕ

-- A number from 1 to n - 1.
abbrev pub is_scalar : (n r : ℕ) → Bool
is_scalar n r = nat_lt 0 r && nat_lt r n

-- Whether the point is not infinity, and its first coordinate is r modulo n.
abbrev pub leaves : (n r : ℕ) → Point → Bool
leaves n r infinity = false
leaves n r (affine x y) = nat_eq (x % n) r

-- The point that r is compared with: (e / s) G + (r / s) Q, with Q at (x, y).
unfoldable pub found_point : Parameters → (x y e r s : ℕ) → Point
found_point c x y e r s =
    sum c.p
    (multiple c.p (affine c.base_x c.base_y) c.bits ((e * inverse c.n s) % c.n))
    (multiple c.p (affine x y) c.bits ((r * inverse c.n s) % c.n))

-- Whether (x, y) is a key, a point of the curve other than infinity, and (r, s) a signature of the number e under it.
unfoldable pub is_signed : Parameters → (x y e r s : ℕ) → Bool
is_signed c x y e r s =
    is_on_curve c.p c.b x y && (is_scalar c.n r && (is_scalar c.n s && leaves c.n r (found_point c x y e r s)))
