use Rattle.curve_points.proofs.Rows.{number_rows, point_rows}
use Rattle.curve_points.proofs.laws.point_rows_hold.Goals as goal

pub returns : goal.returns
returns c = record { numbers = number_rows; points = point_rows }
