use Rattle.std.proofs.Common.{inr}
use Rattle.library_calls.proofs.Told.{unshown}
use Rattle.library_calls.proofs.show.tell_evidence.Goals as goal

pub returns-in-Err : goal.returns-in-Err
returns-in-Err c = inr (unshown _ _ _ c.text_of.result c.in-Err.fault _ _ _ _ _ _ c.in-Err.is c.in-Err.ensures.refused
    c.text_of.ensures.memory c.from.ensures c.tell_unmade.ensures)
