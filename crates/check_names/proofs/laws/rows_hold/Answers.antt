use Rattle.check_names.proofs.NamingRows.{naming_rows, issuer_rows, matching_rows}
use Rattle.check_names.proofs.laws.rows_hold.Goals as goal

pub returns : goal.returns
returns c = record { naming = naming_rows; issuers = issuer_rows; matching = matching_rows }
