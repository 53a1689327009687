use Rattle.ess_types.proofs.SigningRows.{signing_rows}
use Rattle.ess_types.proofs.laws.signing_rows_hold.Goals as goal

pub returns : goal.returns
returns c = record { signing_certificates = signing_rows }
