use Rattle.der_core.proofs.laws.rows_hold.Goals as goal
use Rattle.der_core.proofs.Rows.{hex_rows, element_rows, contents_rows, time_rows}

pub returns : goal.returns
returns c = record {
  hexadecimal = hex_rows;
  elements = element_rows;
  contents = contents_rows;
  times = time_rows;
}
