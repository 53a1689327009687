-- What `evidence questions` prints for an evidence record and a trust list. `holds` is what an open file holds, if that
-- is known.
use Rattle.std.specs.Prelude.{◌≡◌, ◌⊎◌, ℕ, List, Option}
use Rattle.std.specs.Borrow.{Bor}
use Rattle.trust_lists.specs.Asking.{Asked}
use Rattle.trust_lists.specs.Entries.{EntryValue}
use Rattle.check_questions.specs.QuestionsText.{questions_text}
use Rattle.evidence_questions.specs.RecordQuestions.{AreQuestionsOfRecord}
use Rattle.cli_tasks.specs.declared.task.EvidenceQuestionsWords.{EvidenceQuestionsWords}
use Rattle.cli_failures.specs.declared.failure.Failure.{Failure}
use Rattle.cli_failures.specs.Files.{IsFailureToRead, IsHeld}
use Rattle.cli_commands.specs.Lists.{IsTrustOf, IsFailureOfTrust}
use Rattle.cli_evidence.specs.Checking.{IsUnopened}

-- the text of the questions of a file's record, under the list of a file
abbrev pub ShowsRecordQuestions : {F : Type 0} → (holds : F → Option (List ℕ)) → (text : List ℕ) → Type 0
ShowsRecordQuestions holds text = (trust : List EntryValue) × (octets : List ℕ) × (qs : List Asked)
    × IsTrustOf holds trust × IsHeld holds octets × AreQuestionsOfRecord trust octets qs × (text ≡ questions_text qs)

-- the file can't be read, memory runs out, or V1 or V2
abbrev pub HasNoRecordQuestions : {F : Type 0} → (holds : F → Option (List ℕ)) → (path : Bor (List ℕ)) → Failure
    → Type 0
HasNoRecordQuestions holds path f = IsFailureToRead path f ⊎ IsUnopened holds f

-- or the list's file fails or isn't a list
abbrev pub ShowsNoRecordQuestions : {F : Type 0} → (holds : F → Option (List ℕ)) → EvidenceQuestionsWords → Failure
    → Type 0
ShowsNoRecordQuestions holds words f = IsFailureOfTrust holds words.trust f
    ⊎ HasNoRecordQuestions holds words.record f
