use Rattle.check_fit.proofs.laws.rows_hold.Goals as goal
use Rattle.check_fit.proofs.Rows.{fitting_rows, unfit_rows, abc_fit_rows}

pub returns : goal.returns
returns c = record {
  fitting = fitting_rows;
  unfit = unfit_rows;
  abc = abc_fit_rows;
}
