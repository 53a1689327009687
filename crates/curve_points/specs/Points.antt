-- The points of a curve y^2 = x^3 - 3 x + b over the numbers modulo a prime p, in affine coordinates: their sum and
-- their multiples (SP 800-186 2.1.1, A.1.1; SEC 1 2.2.1).
use Rattle.std.specs.Prelude.{ℕ, zero, suc, ◌+◌, ◌*◌, ◌/◌, ◌%◌, Bool, cond, ◌&&◌, nat_eq, nat_lt}
use Rattle.curve_points.specs.Residues.{minus, inverse}

-- A point: infinity, which is the group's zero, or a pair of numbers below p.
pub data Point : Type 0 where
  infinity : Point
  affine : (x y : ℕ) → Point

-- Whether (x, y) is a point of the curve.
abbrev pub is_on_curve : (p b x y : ℕ) → Bool
is_on_curve p b x y = nat_lt x p && nat_lt y p && nat_eq ((y * y + 3 * x) % p) ((x * (x * x) + b) % p)

-- Where the line of slope l through (x, y), which meets the curve at the first coordinate s too, meets it once more,
-- mirrored: u = l^2 - x - s and v = l (x - u) - y.
unfoldable pub third_x : (p x s l : ℕ) → ℕ
third_x p x s l = minus p (minus p (l * l) x) s % p

unfoldable pub third_y : (p x y l u : ℕ) → ℕ
third_y p x y l u = minus p (l * minus p x u) y % p

abbrev pub third : (p x y s l : ℕ) → Point
third p x y s l = affine (third_x p x s l) (third_y p x y l (third_x p x s l))

-- (t - y) / (s - x)
unfoldable pub chord_slope : (p x y s t : ℕ) → ℕ
chord_slope p x y s t = minus p t y * inverse p (minus p s x)

-- (3 x^2 - 3) / 2 y
unfoldable pub tangent_slope : (p x y : ℕ) → ℕ
tangent_slope p x y = minus p (3 * (x * x)) 3 * inverse p (2 * y)

-- The double of (x, y): infinity if 2 y is 0, or by the tangent.
unfoldable pub double : (p x y : ℕ) → Point
double p x y = cond (nat_eq ((y + y) % p) 0) infinity (third p x y x (tangent_slope p x y))

-- The sum of two points: infinity is its zero; (x, y) and (x, -y) give infinity; (x, y) and (x, y) its double; others
-- the third point of the chord.
unfoldable pub sum : (p : ℕ) → Point → Point → Point
sum p infinity b = b
sum p (affine x y) infinity = affine x y
sum p (affine x y) (affine s t) =
    cond (nat_eq x s)
    (cond (nat_eq ((y + t) % p) 0) infinity (double p x y))
    (third p x y s (chord_slope p x y s t))

-- The multiple of a point by a number m of n bits, by doubling and adding: of an odd number 2 k + 1 it is (k P + k P) +
-- P, of an even one 2 k it is k P + k P.
unfoldable pub multiple : (p : ℕ) → Point → (n m : ℕ) → Point
multiple p P zero m = infinity
multiple p P (suc n) m =
    cond (nat_eq (m % 2) 1)
    (sum p (sum p (multiple p P n (m / 2)) (multiple p P n (m / 2))) P)
    (sum p (multiple p P n (m / 2)) (multiple p P n (m / 2)))
