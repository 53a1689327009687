use Rattle.trust_lists.proofs.Rows.{trust_rows}
use Rattle.trust_lists.proofs.laws.rows_hold.Goals as goal

pub returns : goal.returns
returns c = trust_rows
