use Rattle.big_numbers.proofs.WorkedRows.{octet_rows, power_rows, word_rows}
use Rattle.big_numbers.proofs.laws.rows_hold.Goals as goal

pub returns : goal.returns
returns c = record { octets = octet_rows; words = word_rows; powers = power_rows }
