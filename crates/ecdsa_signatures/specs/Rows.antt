-- Worked rows: signatures on two small curves, made and verified by a program in Python that inverts by `pow`.
use Rattle.std.specs.Prelude.{◌≡◌, true, false}
use Rattle.curve_points.specs.Points.{infinity, affine}
use Rattle.ecdsa_signatures.specs.Signatures.{Parameters, leaves, found_point, is_signed}

-- y^2 = x^3 - 3 x + 15 modulo 103, with 113 points, and a key of it: (61, 25), which is 41 times the base point
abbrev pub small : Parameters
small = record { p = 103; b = 15; base_x = 0; base_y = 18; n = 113; bits = 7 }

-- y^2 = x^3 - 3 x + 45 modulo 103, with 97 points, fewer than 103; its key is (54, 13)
abbrev pub fewer : Parameters
fewer = record { p = 103; b = 45; base_x = 3; base_y = 28; n = 97; bits = 7 }

pub record SignatureRows : Type 0 where
  pub good : is_signed small 61 25 77 98 70 ≡ true
  -- another number; the same modulo 113; the opposite key
  pub other_number : is_signed small 61 25 78 98 70 ≡ false
  pub same_number : is_signed small 61 25 190 98 70 ≡ true
  pub other_key : is_signed small 61 78 77 98 70 ≡ false
  -- r and s that are not from 1 to 112, of the same remainders
  pub r_above : is_signed small 61 25 77 211 70 ≡ false
  pub s_above : is_signed small 61 25 77 98 183 ≡ false
  pub r_none : is_signed small 61 25 77 0 70 ≡ false
  pub s_none : is_signed small 61 25 77 98 0 ≡ false
  -- r and s exchanged
  pub exchanged : is_signed small 61 25 77 70 98 ≡ false
  -- a key off the curve, and coordinates that are not below 103, of the same remainders
  pub off_curve : is_signed small 61 26 77 98 70 ≡ false
  pub x_above : is_signed small 164 25 77 98 70 ≡ false
  pub y_above : is_signed small 61 128 77 98 70 ≡ false
  -- the point is infinity, which leaves no remainder, not even 0
  pub infinite : found_point small 61 25 50 98 70 ≡ infinity
  pub infinite_leaves_none : leaves 113 0 infinity ≡ false
  pub refused_infinite : is_signed small 61 25 50 98 70 ≡ false
  -- the point's first coordinate is 98, which is 1 modulo 97
  pub above_order : found_point fewer 54 13 50 1 94 ≡ affine 98 55
  pub modulo_order : is_signed fewer 54 13 50 1 94 ≡ true
  pub not_modulo_order : is_signed fewer 54 13 50 98 94 ≡ false
