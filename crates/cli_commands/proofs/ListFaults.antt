-- How a file fails that is to hold a trust list or an answers list.
use Rattle.std.proofs.Common.{◌≡◌, ◌⊎◌, ℕ, List, Option, Err, refl, inl, inr}
use Rattle.std.specs.Borrow.{Bor}
use Rattle.trust_lists.specs.declared.trust_fault.TrustFault.{TrustFault}
use Rattle.trust_lists.specs.declared.trust_fault.TrustRule.{TrustRule}
use Rattle.trust_lists.specs.declared.trust_fault.TrustRule.TheVariants as rule
use Rattle.trust_lists.specs.TrustText.{IsTrust}
use Rattle.list_answers.specs.declared.answers_fault.AnswersFault.{AnswersFault}
use Rattle.list_answers.specs.declared.answers_fault.AnswersRule.{AnswersRule}
use Rattle.list_answers.specs.declared.answers_fault.AnswersRule.TheVariants as answers
use Rattle.list_answers.specs.AnswersText.{answers_of}
use Rattle.cli_failures.specs.Failures.{failure_by, failure_of_trust, failure_by_rule, failure_of_answers}
use Rattle.cli_failures.specs.Files.{IsHeld}
use Rattle.cli_commands.specs.Lists.{IsFailureOfTrust, IsFailureOfAnswers}

module _ {F : Type 0} (holds : F → Option (List ℕ)) where
  by_rule : (path : Bor (List ℕ)) (text : List ℕ) (fault : TrustFault) (r : TrustRule) → IsHeld holds text
      → fault.rule ≡ r
      → (fault ≡ record { rule = rule.OutOfMemory; line = 0 }) ⊎ IsTrust text (Err fault)
      → IsFailureOfTrust holds path (failure_by r fault)
  by_rule path text fault rule.OutOfMemory read e h = inl (inl refl)
  by_rule path text fault rule.Version read e (inl m) = absurd (let no : ⊥ = cc in no)
  by_rule path text fault rule.Version read e (inr h) = inr (text, fault, read, h, refl)
  by_rule path text fault rule.Line read e (inl m) = absurd (let no : ⊥ = cc in no)
  by_rule path text fault rule.Line read e (inr h) = inr (text, fault, read, h, refl)
  by_rule path text fault rule.Certificate read e (inl m) = absurd (let no : ⊥ = cc in no)
  by_rule path text fault rule.Certificate read e (inr h) = inr (text, fault, read, h, refl)
  by_rule path text fault rule.Period read e (inl m) = absurd (let no : ⊥ = cc in no)
  by_rule path text fault rule.Period read e (inr h) = inr (text, fault, read, h, refl)

  -- want of memory names no list, and any other fault is one of the text
  pub no_trust : (path : Bor (List ℕ)) (text : List ℕ) (fault : TrustFault) → IsHeld holds text
      → (fault ≡ record { rule = rule.OutOfMemory; line = 0 }) ⊎ IsTrust text (Err fault)
      → IsFailureOfTrust holds path (failure_of_trust fault)
  no_trust path text fault read h = by_rule path text fault fault.rule read refl h

  by_answers_rule : (path : Bor (List ℕ)) (text : List ℕ) (fault : AnswersFault) (r : AnswersRule) → IsHeld holds text
      → fault.rule ≡ r
      → (fault ≡ record { rule = answers.OutOfMemory; line = 0 }) ⊎ (answers_of text ≡ Err fault)
      → IsFailureOfAnswers holds path (failure_by_rule r fault)
  by_answers_rule path text fault answers.OutOfMemory read e h = inl (inl refl)
  by_answers_rule path text fault answers.Version read e (inl m) = absurd (let no : ⊥ = cc in no)
  by_answers_rule path text fault answers.Version read e (inr h) = inr (text, fault, read, h, refl)
  by_answers_rule path text fault answers.Line read e (inl m) = absurd (let no : ⊥ = cc in no)
  by_answers_rule path text fault answers.Line read e (inr h) = inr (text, fault, read, h, refl)

  pub no_answers : (path : Bor (List ℕ)) (text : List ℕ) (fault : AnswersFault) → IsHeld holds text
      → (fault ≡ record { rule = answers.OutOfMemory; line = 0 }) ⊎ (answers_of text ≡ Err fault)
      → IsFailureOfAnswers holds path (failure_of_answers fault)
  no_answers path text fault read h = by_answers_rule path text fault fault.rule read refl h
