use Rattle.tsp_types.proofs.StampRows.{tst_rows, response_rows, fail_rows}
use Rattle.tsp_types.proofs.stamp_laws.stamp_rows_hold.Goals as goal

pub returns : goal.returns
returns c = record { stamps = tst_rows; responses = response_rows; fail_bits = fail_rows }
