use Rattle.std.proofs.Common.{inl, inr, refl, ◌∙◌}
use Rattle.library_calls.proofs.Told.{made_as}
use Rattle.library_calls.proofs.stamp.tell_stamp_questions.Goals as goal

pub returns-in-Ok-token_text : goal.returns-in-Ok-token_text
returns-in-Ok-token_text c =
    let (qs, are, is) = c.in-Ok-token_text.ensures.asked in
    inl (
      c.in-Ok.token.now,
      c.in-Ok.ensures.held,
      inl (
        qs,
        are,
        made_as _ _ _ _ _ _ _ (c.deref.ensures.value ∙ is) c.tell_made.ensures,
      ),
    )

pub returns-in-Err-token_text : goal.returns-in-Err-token_text
returns-in-Err-token_text c = inl (
  c.in-Ok.token.now,
  c.in-Ok.ensures.held,
  inr (
    c.in-Err-token_text.fault,
    c.in-Err-token_text.ensures.refused,
    c.without_text-in-Err-token_text.ensures.said ∙ c.fault_answer.ensures,
    c.without_text-in-Err-token_text.ensures.status ∙ c.fault_status.ensures,
    c.without_text-in-Err-token_text.ensures.size,
    refl,
  ),
)
