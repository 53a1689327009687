-- The worked rows, computed.
use Rattle.std.proofs.Common.{refl}
use Rattle.curve_points.specs.Residues.{minus, found_below, inverse}
use Rattle.curve_points.specs.Points.{third_x, third_y, chord_slope, tangent_slope, double, sum, multiple}
use Rattle.ecdsa_signatures.specs.Signatures.{found_point, is_signed}
use Rattle.ecdsa_signatures.specs.Rows.{SignatureRows}

pub signature_rows : SignatureRows
unfolding is_signed found_point multiple sum double chord_slope tangent_slope third_x third_y inverse found_below minus
signature_rows = record {
  good = refl;
  other_number = refl;
  same_number = refl;
  other_key = refl;
  r_above = refl;
  s_above = refl;
  r_none = refl;
  s_none = refl;
  exchanged = refl;
  off_curve = refl;
  x_above = refl;
  y_above = refl;
  infinite = refl;
  infinite_leaves_none = refl;
  refused_infinite = refl;
  above_order = refl;
  modulo_order = refl;
  not_modulo_order = refl;
}
