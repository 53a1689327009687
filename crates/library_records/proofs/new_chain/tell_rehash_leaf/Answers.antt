use Rattle.std.proofs.Common.{inr}
use Rattle.library_records.proofs.new_chain.tell_rehash_leaf.Goals as goal

pub returns-in-Err : goal.returns-in-Err
returns-in-Err c = inr (c.in-Err.why, c.in-Err.ensures.refused, c.tell_unmade.ensures)
