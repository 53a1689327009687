-- Jacobian coordinates, chords and tangents, by equations in which no difference stands.
use Rattle.std.specs.Prelude.{ℕ, ◌+◌, ◌*◌}
use Rattle.curve_points.specs.Residues.{Congruent}

-- x is X / Z^2, and y is Y / Z^3.
pub record IsAt (p X Y Z x y : ℕ) : Type 0 where
  pub at_x : Congruent p X (x * (Z * Z))
  pub at_y : Congruent p Y (y * (Z * Z * Z))

-- The line of slope l through (x, y), which meets the curve at the first coordinate a too, meets it once more at the
-- place that (u, v) mirrors: u = l^2 - x - a and v = l (x - u) - y.
pub record IsThird (p x y a l u v : ℕ) : Type 0 where
  pub next_x : Congruent p (u + x + a) (l * l)
  pub next_y : Congruent p (v + y + l * u) (l * x)

-- l is the slope of the tangent at (x, y): (3 x^2 - 3) / 2 y.
abbrev pub IsTangent : (p x y l : ℕ) → Type 0
IsTangent p x y l = Congruent p (l * (2 * y) + 3) (3 * (x * x))

-- l is the slope of the chord through (x, y) and (a, b): (b - y) / (a - x).
abbrev pub IsChord : (p x y a b l : ℕ) → Type 0
IsChord p x y a b l = Congruent p (l * a + y) (l * x + b)

-- The tangent's third point has these coordinates, wherever (X, Y, Z) is.
abbrev pub Doubles : (p X Y Z A B C : ℕ) → Type 0
Doubles p X Y Z A B C =
    (x y l u v : ℕ) → IsAt p X Y Z x y → IsTangent p x y l → IsThird p x y x l u v → IsAt p A B C u v

-- The chord's third point has the coordinates (U, V, W), wherever (X, Y, Z) and (A, B, C) are.
abbrev pub Adds : (p X Y Z A B C U V W : ℕ) → Type 0
Adds p X Y Z A B C U V W =
    (x y s t l u v d : ℕ) → IsAt p X Y Z x y → IsAt p A B C s t → Congruent p (d + x) s
    → IsChord p x y s t l → IsThird p x y s l u v → IsAt p U V W u v
