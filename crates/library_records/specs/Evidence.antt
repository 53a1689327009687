-- What the calls say of an evidence record (RFC 4998).
use Rattle.std.specs.Prelude.{◌≡◌, ◌⊎◌, ⊤, ℕ, List, Option, Result, Ok, Err}
use Rattle.check_fit.specs.declared.rules.DeviceFault.TheVariants as device
use Rattle.trust_lists.specs.Asking.{Asked, is_among}
use Rattle.trust_lists.specs.Entries.{EntryValue}
use Rattle.check_questions.specs.QuestionsText.{questions_text}
use Rattle.check_evidence.specs.Grounds.{AlgEnd, Grounds}
use Rattle.check_evidence.specs.Showing.{Shows}
use Rattle.check_evidence.specs.Refusing.{Refuses}
use Rattle.check_evidence.specs.declared.rules.EvidenceRefused.{EvidenceRefused}
use Rattle.check_evidence.specs.declared.rules.EvidenceRefused.TheVariants as refused
use Rattle.evidence_questions.specs.declared.fault.RecordQuestionsFault.{RecordQuestionsFault}
use Rattle.evidence_questions.specs.declared.fault.RecordQuestionsFault.TheVariants as fault
use Rattle.evidence_questions.specs.RecordQuestions.{AreQuestionsOfRecord, IsRecordQuestion}
use Rattle.evidence_questions.specs.RecordWritten.{HasNoQuestions}
use Rattle.cli_failures.specs.declared.failure.Failure.{Failure}
use Rattle.cli_failures.specs.declared.failure.Failure.TheVariants as failure
use Rattle.library_answers.specs.declared.answer.Answer.{Answer}
use Rattle.library_answers.specs.Failures.{failure_numbers, failure_status, IsMade}
use Rattle.library_answers.specs.Numbers.{nothing, accepted_numbers}
use Rattle.library_answers.specs.Verdicts.{Tells}
use Rattle.library_calls.specs.Stamps.{accepting, SaysFailure}
use Rattle.library_records.specs.Stated.{EvidenceCheck, States, RefusesStated, data_of}

-- the grounds of a check under a trust list and an answers list, with these ends and this moment
abbrev pub grounds_under : (list : List EntryValue) → (asked : List Asked) → EvidenceCheck → (ends : List AlgEnd)
    → (at : Option ℕ) → Grounds
grounds_under list asked i ends at = record {
  trust = list;
  vouches = is_among asked;
  ends = ends;
  at = at;
  whole = i.whole;
}

-- the record shows this moment for the data objects, or is refused for this reason; or memory was refused
abbrev pub IsKnownEvidenceVerdict : Grounds → (octets : List ℕ) → (data_objects : List (List ℕ))
    → Result ℕ EvidenceRefused → Type 0
IsKnownEvidenceVerdict g octets data_objects (Ok m) = Shows g octets data_objects m
IsKnownEvidenceVerdict g octets data_objects (Err (refused.Device fault)) = fault ≡ device.OutOfMemory
IsKnownEvidenceVerdict g octets data_objects (Err why) = Refuses g octets data_objects why

-- a device failed
abbrev pub IsDevice : Result ℕ EvidenceRefused → Type 0
IsDevice (Err (refused.Device fault)) = ⊤
IsDevice _ = ⊥

-- and if it shows a moment, that is the verdict, unless memory was refused
pub record IsEvidenceJudged (g : Grounds) (octets : List ℕ) (data_objects : List (List ℕ))
    (answer : Result ℕ EvidenceRefused) : Type 0 where
  pub verdict : IsKnownEvidenceVerdict g octets data_objects answer
  pub complete : (m : ℕ) → Shows g octets data_objects m → (answer ≡ Ok m) ⊎ IsDevice answer

-- memory was refused: status 7, no verdict and no text
abbrev pub SaysNoMemory : (said : Answer) (status : ℕ) (before : List ℕ) (size : ℕ) (after : List ℕ) → Type 0
SaysNoMemory said status before size after = (status ≡ 7) × (said ≡ nothing) × (size ≡ 0) × (after ≡ before)

-- a verdict about a record, in numbers and as its line
abbrev pub SaysEvidence : Result ℕ EvidenceRefused → (said : Answer)
    (status : ℕ) (before : List ℕ) (size : ℕ) (after : List ℕ) → Type 0
SaysEvidence (Ok m) said status before size after = (said ≡ accepted_numbers m)
    × Tells (accepting m) status before size after
SaysEvidence (Err (refused.Device fault)) said status before size after = SaysNoMemory said status before size after
SaysEvidence (Err why) said status before size after = SaysFailure (failure.Unshown why) said status before size after

-- with what the caller states the verdict, in numbers and as its line
abbrev pub IsEvidenceStated : (list : List EntryValue) → (asked : List Asked) → EvidenceCheck → (said : Answer)
    (status : ℕ) (before : List ℕ) (size : ℕ) (after : List ℕ) → Type 0
IsEvidenceStated list asked i said status before size after = (ends : List AlgEnd) × (at : Option ℕ)
    × States i ends at × ((answer : Result ℕ EvidenceRefused)
    × IsEvidenceJudged (grounds_under list asked i ends at) i.evidence (data_of i) answer
    × SaysEvidence answer said status before size after)

-- what the caller states is not as it must be, for this reason; or memory was refused
abbrev pub IsUnstated : (Refuses : Failure → Type 0) → (said : Answer)
    (status : ℕ) (before : List ℕ) (size : ℕ) (after : List ℕ) → Type 0
IsUnstated Refuses said status before size after =
    ((why : Failure) × Refuses why × SaysFailure why said status before size after)
    ⊎ SaysNoMemory said status before size after

-- that verdict; or what the caller states is not as it must be; or memory was refused
abbrev pub IsEvidenceChecked : (list : List EntryValue) → (asked : List Asked) → EvidenceCheck → (said : Answer)
    (status : ℕ) (before : List ℕ) (size : ℕ) (after : List ℕ) → Type 0
IsEvidenceChecked list asked i said status before size after =
    IsEvidenceStated list asked i said status before size after
    ⊎ IsUnstated (RefusesStated i) said status before size after

-- another list answers each question about the tokens of the record as the answers list does
abbrev pub AnswersAlike : (list : List EntryValue) → (octets : List ℕ) → (asked others : List Asked) → Type 0
AnswersAlike list octets asked others = (q : Asked) → IsRecordQuestion list octets q
    → is_among others q ≡ is_among asked q

-- with what the caller states, the record shows this moment for the data objects
pub record ShowsStated (list : List EntryValue) (asked : List Asked) (i : EvidenceCheck) (m : ℕ) : Type 0 where
  pub ends : List AlgEnd
  pub at : Option ℕ
  pub stated : States i ends at
  pub shows : Shows (grounds_under list asked i ends at) i.evidence (data_of i) m

-- The numbers are those of an acceptance with this moment exactly if the record shows it, unless memory was refused.
pub record SaysShown (list : List EntryValue) (asked : List Asked) (i : EvidenceCheck) (said : Answer) (status : ℕ)
    (m : ℕ) : Type 0 where
  pub sound : said ≡ accepted_numbers m → ShowsStated list asked i m
  pub complete : ShowsStated list asked i m → (said ≡ accepted_numbers m) ⊎ ((said ≡ nothing) × (status ≡ 7))

-- ---- the questions

-- why there are none, V1 or V2; or memory was refused
abbrev pub IsRecordUnasked : (octets : List ℕ) → RecordQuestionsFault → Type 0
IsRecordUnasked octets (fault.Record failed) = HasNoQuestions octets failed
IsRecordUnasked octets fault.WriteFailed = ⊤

abbrev pub failure_of_questions : RecordQuestionsFault → Failure
failure_of_questions (fault.Record failed) = failure.Unshown (refused.Record failed)
failure_of_questions fault.WriteFailed = failure.Memory

-- the questions of the record, as their text; or why there are none, in numbers and by the status alone
abbrev pub IsEvidenceQuestioned : (list : List EntryValue) (octets : List ℕ) (said : Answer) (status : ℕ)
    (before : List ℕ) (size : ℕ) (after : List ℕ) → Type 0
IsEvidenceQuestioned list octets said status before size after =
    ((qs : List Asked) × AreQuestionsOfRecord list octets qs
    × IsMade (questions_text qs) said status before size after)
    ⊎ ((why : RecordQuestionsFault) × IsRecordUnasked octets why × (said ≡ failure_numbers (failure_of_questions why))
    × (status ≡ failure_status (failure_of_questions why)) × (size ≡ 0) × (after ≡ before))
