use Rattle.std.proofs.Common.{refl, ◌∙◌}
use Rattle.library_calls.proofs.AreUnasked.{questioned_made, questioned_not}
use Rattle.library_calls.proofs.questions.tell_questions.Goals as goal

pub returns-in-Ok : goal.returns-in-Ok
returns-in-Ok c =
    questioned_made _ _ _ _ _ _ _ c.in-Ok.found.items _ c.deref.ensures.value c.in-Ok.ensures.asked c.in-Ok.ensures.only
    c.in-Ok.ensures.malformed c.in-Ok.ensures.another c.tell_made.ensures

pub returns-in-Err : goal.returns-in-Err
returns-in-Err c = questioned_not _ _ _ _ _ _ _ c.in-Err.fault c.in-Err.ensures.refused c.in-Err.ensures.only
    c.in-Err.ensures.malformed
    c.in-Err.ensures.another (c.without_text.ensures.said ∙ c.fault_answer.ensures)
    (c.without_text.ensures.status ∙ c.fault_status.ensures) c.without_text.ensures.size refl
