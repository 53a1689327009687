use Rattle.rsa_signatures.proofs.WorkedRows.{info_rows, pkcs1_rows, pss_rows}
use Rattle.rsa_signatures.proofs.laws.rows_hold.Goals as goal

pub returns : goal.returns
returns c = record { infos = info_rows; pkcs1 = pkcs1_rows; pss = pss_rows }
