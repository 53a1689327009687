-- Numbers modulo p in Montgomery's form (Handbook of Applied Cryptography 14.36): s times a number stands for it, where
-- s is a power of 2 above p and s times u is 1.
use Rattle.std.specs.Prelude.{ℕ, ◌*◌, ◌%◌, ◌<◌}
use Rattle.curve_points.specs.Residues.{Congruent}

-- the number below p that w stands for
unfoldable pub meant : (p u w : ℕ) → ℕ
meant p u w = (w * u) % p

-- These are the numbers of such a form.
pub record IsForm (p u s : ℕ) : Type 0 where
  pub large : 1 < p
  pub unit : Congruent p (s * u) 1
