use Rattle.ecdsa_signatures.proofs.Rows.{signature_rows}
use Rattle.ecdsa_signatures.proofs.laws.signature_rows_hold.Goals as goal

pub returns : goal.returns
returns c = signature_rows
