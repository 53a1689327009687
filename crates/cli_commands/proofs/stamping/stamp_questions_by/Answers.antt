use Rattle.std.proofs.Common.{ap, ◌++◌, ◌∙◌, List, ℕ, refl, inl, inr}
use Rattle.check_questions.specs.QuestionsText.{questions_text}
use Rattle.cli_values.proofs.Held.{held_as}
use Rattle.cli_commands.proofs.StampsChecked.{another_of, malformed_of}
use Rattle.cli_commands.specs.Stamping.{IsTokenHeld}
use Rattle.cli_commands.proofs.stamping.stamp_questions_by.Given.{Over}
use Rattle.cli_commands.proofs.stamping.stamp_questions_by.Goals.{After-token_questions}
use Rattle.cli_commands.proofs.stamping.stamp_questions_by.Goals as goal

pub returns-in-Ok-clause-asked : goal.returns-in-Ok-clause-asked
returns-in-Ok-clause-asked g c = λ trusted.
    let (qs, are, wrote) = c.in-Ok.ensures.written in (
      c.args.trust.now,
      c.in_ok-token.token.now,
      qs,
      trusted,
      (
        c.as_slice.result.now,
        held_as _ _ _ c.as_slice.ensures.value c.in_ok-octets.ensures.whole,
        c.in_ok-token.ensures.held,
      ),
      are,
      c.into_inner.ensures.taken ∙ (wrote.0 refl
          ∙ ap (λ (x : List ℕ). x ++ questions_text qs) (c.new-text.ensures.taken ∙ c.new.ensures.items)),
    )

-- the token of the file
held : (g : Over) (c : After-token_questions g) → IsTokenHeld g.R.File.Read.remaining c.in_ok-token.token.now
held g c = (
  c.as_slice.result.now,
  held_as _ _ _ c.as_slice.ensures.value c.in_ok-octets.ensures.whole,
  c.in_ok-token.ensures.held,
)

pub returns-in-Err-Malformed-clause-refused : goal.returns-in-Err-Malformed-clause-refused
returns-in-Err-Malformed-clause-refused g c =
    let at = (goal.at.returns-in-Err-Malformed-clause-refused g c).After-token_questions in
    inr (inr (
      c.in_ok-token.token.now,
      held g at,
      inl (
        c.in-Err-Malformed.fault,
        malformed_of _ _ c.in-Err-Malformed.field-0 _ _ _ _ _ c.in-Err-Malformed.ensures.written
            c.in-Err-Malformed.fault c.in-Err-Malformed.field-0-is,
        refl,
      ),
    ))

pub returns-in-Err-NotSignedData-clause-refused : goal.returns-in-Err-NotSignedData-clause-refused
returns-in-Err-NotSignedData-clause-refused g c =
    let at = (goal.at.returns-in-Err-NotSignedData-clause-refused g c).After-token_questions in
    inr (inr (
      c.in_ok-token.token.now,
      held g at,
      inr (
        another_of _ _ c.in-Err-NotSignedData.field-0 _ _ _ _ _ c.in-Err-NotSignedData.ensures.written
            c.in-Err-NotSignedData.field-0-is,
        refl,
      ),
    ))
