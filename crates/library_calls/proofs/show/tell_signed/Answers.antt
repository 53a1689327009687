use Rattle.std.proofs.Common.{inl, inr}
use Rattle.std.specs.String.{string_bytes}
use Rattle.library_calls.proofs.Told.{made_as, unshown}
use Rattle.library_calls.proofs.show.tell_signed.Goals as goal

pub returns-in-Ok : goal.returns-in-Ok
returns-in-Ok c = inl (
  string_bytes c.in-Ok.lines,
  c.in-Ok.ensures.shown,
  made_as _ _ _ _ _ _ _ c.as_bytes.ensures.value c.tell_made.ensures,
)

pub returns-in-Err : goal.returns-in-Err
returns-in-Err c = inr (unshown _ _ _ c.text_of.result c.in-Err.fault _ _ _ _ _ _ c.in-Err.is c.in-Err.ensures.refused
    c.text_of.ensures.memory c.from.ensures c.tell_unmade.ensures)
