use Rattle.std.proofs.Common.{◌++◌, ◌∙◌, List, ℕ, ap, refl}
use Rattle.check_questions.specs.QuestionsText.{questions_text}
use Rattle.library_calls.proofs.AreUnasked.{unasked, write_failed, malformed_as, another_as, never_another}
use Rattle.library_calls.proofs.questions.text_of.Goals as goal

pub returns-in-Ok-clause-only : goal.returns-in-Ok-clause-only
returns-in-Ok-clause-only c = λ qs are. c.into_inner.ensures.taken ∙ ((c.in-Ok.ensures.only qs are).0 refl
    ∙ ap (λ (x : List ℕ). x ++ questions_text qs) (c.new-sink.ensures.taken ∙ c.new.ensures.items))

pub returns-in-Ok-clause-malformed : goal.returns-in-Ok-clause-malformed
returns-in-Ok-clause-malformed c = c.in-Ok.ensures.malformed.1

pub returns-in-Ok-clause-another : goal.returns-in-Ok-clause-another
returns-in-Ok-clause-another c = never_another _ _ c.in-Ok.ensures.another

pub returns-in-Err-clause-refused : goal.returns-in-Err-clause-refused
returns-in-Err-clause-refused c = unasked _ _ c.in-Err.fault _ _ _ _ _ c.in-Err.ensures.written

pub returns-in-Err-clause-only : goal.returns-in-Err-clause-only
returns-in-Err-clause-only c = λ qs are. write_failed _ c.in-Err.fault _ _ _ _ _ (c.in-Err.ensures.only qs are)

pub returns-in-Err-clause-malformed : goal.returns-in-Err-clause-malformed
returns-in-Err-clause-malformed c = malformed_as _ c.in-Err.fault c.in-Err.ensures.malformed

pub returns-in-Err-clause-another : goal.returns-in-Err-clause-another
returns-in-Err-clause-another c = another_as _ c.in-Err.fault c.in-Err.ensures.another
