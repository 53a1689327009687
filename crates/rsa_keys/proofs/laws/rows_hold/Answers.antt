use Rattle.rsa_keys.proofs.WorkedRows.{key_rows, parameter_rows, scheme_rows}
use Rattle.rsa_keys.proofs.laws.rows_hold.Goals as goal

pub returns : goal.returns
returns c = record { keys = key_rows; parameters = parameter_rows; schemes = scheme_rows }
