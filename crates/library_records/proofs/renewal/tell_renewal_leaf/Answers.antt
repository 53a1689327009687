use Rattle.std.proofs.Common.{inr}
use Rattle.library_records.proofs.renewal.tell_renewal_leaf.Goals as goal

pub returns-in-Err : goal.returns-in-Err
returns-in-Err c = inr (c.in-Err.why, c.in-Err.ensures.refused, c.tell_unmade.ensures)
