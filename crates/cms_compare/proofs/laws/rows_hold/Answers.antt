use Rattle.cms_compare.proofs.Rows.{rows}
use Rattle.cms_compare.proofs.laws.rows_hold.Goals as goal

pub returns : goal.returns
returns c = rows
