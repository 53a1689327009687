-- The worked rows, computed.
use Rattle.std.proofs.Common.{◌≡◌, ℕ, ◌<◌, refl, arith}
use Rattle.curve_points.specs.Residues.{minus, found_below, inverse}
use Rattle.curve_points.specs.Words.{number}
use Rattle.curve_points.specs.Points.{third_x, third_y, chord_slope, tangent_slope, double, sum, multiple}
use Rattle.curve_points.specs.Rows.{NumberRows, PointRows}

not_one : (n k : ℕ) → n ≡ k → 1 < k → n ≡ 1 → ⊥
not_one n k e h f = omega arith

pub number_rows : NumberRows
unfolding inverse found_below number
number_rows = record {
  inverse_of_two = refl;
  inverse_of_none = refl;
  inverse_of_factor = refl;
  witness = record { positive = omega arith; below = omega arith; fails = not_one _ 4 refl (omega arith) };
  carmichael = record { positive = omega arith; below = omega arith; fails = not_one _ 375 refl (omega arith) };
  no_witness = λ h. h.fails refl;
  prime = refl;
  words = refl;
}

pub point_rows : PointRows
unfolding multiple sum double chord_slope tangent_slope third_x third_y inverse found_below minus
point_rows = record {
  on_curve = refl;
  off_curve = refl;
  first_not_reduced = refl;
  second_not_reduced = refl;
  first_infinite = refl;
  second_infinite = refl;
  opposite = refl;
  twice = refl;
  own_opposite = refl;
  two_and_three = refl;
  five_and_seven = refl;
  none = refl;
  once = refl;
  by_two = refl;
  by_five = refl;
  by_twelve = refl;
  last = refl;
  order = refl;
  once_more = refl;
  in_more_bits = refl;
}
