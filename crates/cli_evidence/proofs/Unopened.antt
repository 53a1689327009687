-- The record of a file fails a rule, whatever the data are.
use Rattle.std.proofs.Common.{◌≡◌, ℕ, List, Option, Result, Ok, Err, refl, inr, subst}
use Rattle.std.specs.Prelude.{IfErr}
use Rattle.trust_lists.specs.Entries.{EntryValue}
use Rattle.check_evidence.specs.Refusing.{RecordFails}
use Rattle.check_evidence.specs.declared.rules.RecordRule.{RecordRule}
use Rattle.check_evidence.specs.declared.rules.RecordRule.TheVariants as rule
use Rattle.check_evidence.specs.declared.rules.EvidenceRefused.TheVariants as refused
use Rattle.evidence_questions.specs.RecordWritten.{HasNoQuestions, IsRecordWritten}
use Rattle.evidence_questions.specs.declared.fault.RecordQuestionsFault.{RecordQuestionsFault}
use Rattle.evidence_questions.specs.declared.fault.RecordQuestionsFault.TheVariants as questions
use Rattle.judge_evidence.specs.RecordVerdicts.{FailsToOpen}
use Rattle.cli_tasks.specs.declared.task.EvidenceQuestionsWords.{EvidenceQuestionsWords}
use Rattle.cli_failures.specs.declared.failure.Failure.{Failure}
use Rattle.cli_failures.specs.declared.failure.Failure.TheVariants as failure
use Rattle.cli_failures.specs.Files.{IsHeld}
use Rattle.cli_evidence.specs.Checking.{IsUnopened}
use Rattle.cli_evidence.specs.Questions.{HasNoRecordQuestions, ShowsNoRecordQuestions}
use Rattle.cli_evidence.specs.Under.{IsUnopenedUnder}

unopened_fails : (octets : List ℕ) (failed : RecordRule) → FailsToOpen octets failed → (data_objects : List (List ℕ))
    → RecordFails octets data_objects failed
unopened_fails octets (rule.Malformed fault) fails data_objects = fails
unopened_fails octets rule.Encrypted fails data_objects = fails
unopened_fails octets rule.NoData fails data_objects = absurd fails

unasked_fails : (octets : List ℕ) (failed : RecordRule) → HasNoQuestions octets failed → (data_objects : List (List ℕ))
    → RecordFails octets data_objects failed
unasked_fails octets (rule.Malformed fault) fails data_objects = fails
unasked_fails octets rule.Encrypted fails data_objects = fails
unasked_fails octets rule.NoData fails data_objects = absurd fails

module _ {F : Type 0} (holds : F → Option (List ℕ)) (octets : List ℕ) (failed : RecordRule)
    (held : IsHeld holds octets) where
  pub unopened : (f : Failure) → FailsToOpen octets failed → f ≡ failure.Unshown (refused.Record failed)
      → IsUnopened holds f
  unopened f fails is = (octets, failed, held, unopened_fails octets failed fails, is)

  pub unopened_under : (f : Failure) → FailsToOpen octets failed
      → f ≡ failure.Unevidenced (record { refused = refused.Record failed }) → IsUnopenedUnder holds f
  unopened_under f fails is = (octets, failed, held, unopened_fails octets failed fails, is)

  pub unasked : HasNoQuestions octets failed → IsUnopened holds (failure.Unshown (refused.Record failed))
  unasked fails = (octets, failed, held, unasked_fails octets failed fails, refl)

-- ---- questions

-- the list's file doesn't fail
pub or_of_list : {F T : Type 0} (holds : F → Option (List ℕ)) (words : EvidenceQuestionsWords) (r : Result T Failure)
    → IfErr r (HasNoRecordQuestions holds words.record) → IfErr r (ShowsNoRecordQuestions holds words)
or_of_list holds words (Ok t) fails = tt
or_of_list holds words (Err f) fails = inr fails

-- why nothing was written
pub unasked_by : (trust : List EntryValue) (octets : List ℕ) (why : RecordQuestionsFault) (tells : Type 0)
    (taken taken' : List ℕ) (count count' : ℕ) → IsRecordWritten trust octets (Err why) tells taken taken' count count'
    → (failed : RecordRule) → why ≡ questions.Record failed → HasNoQuestions octets failed
unasked_by trust octets why tells taken taken' count count' written failed is =
    (subst (λ (w : RecordQuestionsFault). IsRecordWritten trust octets (Err w) tells taken taken' count count') is
    written).0
