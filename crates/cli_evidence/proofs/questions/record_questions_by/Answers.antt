use Rattle.std.proofs.Common.{ap, ◌++◌, ◌∙◌, List, ℕ, refl, inr}
use Rattle.check_questions.specs.QuestionsText.{questions_text}
use Rattle.cli_values.proofs.Held.{held_as}
use Rattle.cli_evidence.proofs.Unopened.{unasked, unasked_by}
use Rattle.cli_evidence.proofs.questions.record_questions_by.Goals as goal

pub returns-in-Ok-clause-asked : goal.returns-in-Ok-clause-asked
returns-in-Ok-clause-asked g c = λ trusted.
    let (qs, are, wrote) = c.in-Ok.ensures.written in (
      c.args.trust.now,
      c.as_slice.result.now,
      qs,
      trusted,
      held_as _ _ _ c.as_slice.ensures.value c.in_ok-octets.ensures.whole,
      are,
      c.into_inner.ensures.taken ∙ (wrote.0 refl
          ∙ ap (λ (x : List ℕ). x ++ questions_text qs) (c.new-text.ensures.taken ∙ c.new.ensures.items)),
    )

pub returns-in-Err-Record-clause-refused : goal.returns-in-Err-Record-clause-refused
returns-in-Err-Record-clause-refused g c = inr (unasked g.R.File.Read.remaining c.as_slice.result.now
    c.in-Err-Record.rule (held_as _ _ _ c.as_slice.ensures.value c.in_ok-octets.ensures.whole)
    (unasked_by _ _ c.in-Err-Record.field-0 _ _ _ _ _ c.in-Err-Record.ensures.written c.in-Err-Record.rule
    c.in-Err-Record.field-0-is))
