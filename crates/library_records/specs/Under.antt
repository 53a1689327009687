-- What the call says of a signed file under an evidence record (RFC 4998, 1.1 and 5.3).
use Rattle.std.specs.Prelude.{◌≡◌, ◌⊎◌, ℕ, false, List, Option, Result, Ok, Err}
use Rattle.trust_lists.specs.Asking.{Asked, is_among}
use Rattle.trust_lists.specs.Entries.{EntryValue}
use Rattle.check_fit.specs.declared.rules.Refused.{Refused}
use Rattle.check_verdict.specs.Passing.{Terms}
use Rattle.check_verdict.specs.Questions.{IsQuestion}
use Rattle.check_evidence.specs.Grounds.{AlgEnd, Grounds}
use Rattle.check_evidence.specs.declared.rules.EvidenceRefused.{EvidenceRefused}
use Rattle.check_evidence.specs.declared.rules.EvidenceRefused.TheVariants as evidence
use Rattle.check_under.specs.Under.{data_of, AreTermsUnder, YesUnder}
use Rattle.check_under.specs.declared.refused.UnderRefused.{UnderRefused}
use Rattle.check_under.specs.declared.refused.UnderRefused.TheVariants as refused
use Rattle.cli_failures.specs.declared.failure.Failure.{Failure}
use Rattle.cli_failures.specs.declared.failure.Failure.TheVariants as failure
use Rattle.library_answers.specs.declared.answer.Answer.{Answer}
use Rattle.library_answers.specs.Numbers.{nothing, accepted_numbers, refused_numbers}
use Rattle.library_answers.specs.Verdicts.{Tells}
use Rattle.library_calls.specs.Checked.{IsKnownVerdict, SaysTooLong}
use Rattle.library_calls.specs.Known.{IsTooLong}
use Rattle.library_calls.specs.Stamps.{accepting, SaysFailure}
use Rattle.library_records.specs.Evidence.{AnswersAlike, IsDevice, IsKnownEvidenceVerdict, IsUnstated, SaysNoMemory}
use Rattle.library_records.specs.Stated.{RefusesAt, RefusesEnds, StatesAt, StatesEnds}

-- An evidence record; a signed file, and the content if one is handed in; texts that state ends of algorithms and a
-- moment.
pub record UnderCheck : Type 0 where
  pub evidence : List ℕ
  pub file : List ℕ
  pub content : Option (List ℕ)
  pub ends : List ℕ
  pub at : List ℕ

-- the caller states these ends and this moment
pub record StatesUnder (i : UnderCheck) (ends : List AlgEnd) (at : Option ℕ) : Type 0 where
  pub of_ends : StatesEnds i.ends ends
  pub of_at : StatesAt i.at at

-- the first of these that is not as it must be is named: ends, moment
abbrev pub RefusesStatedUnder : UnderCheck → Failure → Type 0
RefusesStatedUnder i f = RefusesEnds i.ends f ⊎ (((ends : List AlgEnd) × StatesEnds i.ends ends) × RefusesAt i.at f)

-- the grounds by which the record is judged: it may have been made for other files too
abbrev pub grounds_by : (list : List EntryValue) → (asked : List Asked) → (ends : List AlgEnd) → (at : Option ℕ)
    → Grounds
grounds_by list asked ends at = record {
  trust = list;
  vouches = is_among asked;
  ends = ends;
  at = at;
  whole = false;
}

-- the file is accepted under the record with this moment; or it is refused for this reason, by the record or, if that
-- shows the file and the content, by itself; or memory was refused, or the content is too long
abbrev pub IsKnownVerdictUnder : Grounds → (octets file : List ℕ) → (handed : Option (List ℕ))
    → Result ℕ UnderRefused → Type 0
IsKnownVerdictUnder g octets file handed (Ok m) = YesUnder g octets file handed m
IsKnownVerdictUnder g octets file handed (Err (refused.Signed why)) = (t : Terms)
    × AreTermsUnder g octets (data_of file handed) t × IsKnownVerdict t file handed (Err why)
IsKnownVerdictUnder g octets file handed (Err (refused.Evidence why)) =
    IsKnownEvidenceVerdict g octets (data_of file handed) (Err why)

-- memory was refused, or the content is too long
abbrev pub IsDeviceUnder : (handed : Option (List ℕ)) → Result ℕ UnderRefused → Type 0
IsDeviceUnder handed (Ok m) = ⊥
IsDeviceUnder handed (Err (refused.Signed why)) = IsTooLong handed (Err why)
IsDeviceUnder handed (Err (refused.Evidence why)) = IsDevice (Err why)

-- and if the file is accepted, that is the verdict, unless memory was refused or the content is too long
pub record IsUnderJudged (g : Grounds) (octets file : List ℕ) (handed : Option (List ℕ))
    (answer : Result ℕ UnderRefused) : Type 0 where
  pub verdict : IsKnownVerdictUnder g octets file handed answer
  pub complete : (m : ℕ) → YesUnder g octets file handed m → (answer ≡ Ok m) ⊎ IsDeviceUnder handed answer

-- the verdict of a file that is refused
abbrev pub refusing : Refused → Result ℕ Refused
refusing why = Err why

-- the failure of a record, whose line names it
abbrev pub of_record : EvidenceRefused → Failure
of_record why = failure.Unevidenced (record { refused = why })

-- a verdict about a file under a record, in numbers and as its line
abbrev pub SaysUnder : Result ℕ UnderRefused → (said : Answer)
    (status : ℕ) (before : List ℕ) (size : ℕ) (after : List ℕ) → Type 0
SaysUnder (Ok m) said status before size after = (said ≡ accepted_numbers m)
    × Tells (accepting m) status before size after
SaysUnder (Err (refused.Signed why)) said status before size after = (said ≡ refused_numbers why)
    × Tells (refusing why) status before size after
SaysUnder (Err (refused.Evidence (evidence.Device fault))) said status before size after =
    SaysNoMemory said status before size after
SaysUnder (Err (refused.Evidence why)) said status before size after =
    SaysFailure (of_record why) said status before size after

-- with what the caller states the verdict, in numbers and as its line
abbrev pub IsUnderStated : (list : List EntryValue) → (asked : List Asked) → UnderCheck → (said : Answer)
    (status : ℕ) (before : List ℕ) (size : ℕ) (after : List ℕ) → Type 0
IsUnderStated list asked i said status before size after = (ends : List AlgEnd) × (at : Option ℕ)
    × StatesUnder i ends at × ((answer : Result ℕ UnderRefused)
    × IsUnderJudged (grounds_by list asked ends at) i.evidence i.file i.content answer
    × SaysUnder answer said status before size after)

-- that verdict; or what the caller states is not as it must be; or memory was refused
abbrev pub IsUnderChecked : (list : List EntryValue) → (asked : List Asked) → UnderCheck → (said : Answer)
    (status : ℕ) (before : List ℕ) (size : ℕ) (after : List ℕ) → Type 0
IsUnderChecked list asked i said status before size after =
    IsUnderStated list asked i said status before size after
    ⊎ IsUnstated (RefusesStatedUnder i) said status before size after

-- with what the caller states, the file is accepted under the record with this moment
pub record YesStated (list : List EntryValue) (asked : List Asked) (i : UnderCheck) (m : ℕ) : Type 0 where
  pub ends : List AlgEnd
  pub at : Option ℕ
  pub stated : StatesUnder i ends at
  pub yes : YesUnder (grounds_by list asked ends at) i.evidence i.file i.content m

-- The numbers are those of an acceptance with this moment exactly if the file is accepted with it, unless memory was
-- refused or the content is too long.
pub record SaysYesUnder (list : List EntryValue) (asked : List Asked) (i : UnderCheck) (said : Answer) (status : ℕ)
    (m : ℕ) : Type 0 where
  pub sound : said ≡ accepted_numbers m → YesStated list asked i m
  pub complete : YesStated list asked i m
      → (said ≡ accepted_numbers m) ⊎ (((said ≡ nothing) × (status ≡ 7)) ⊎ SaysTooLong i.content said)

-- another list answers each question about the tokens of the record, and each of the file, as the answers list does
abbrev pub AnswersUnderAlike : (list : List EntryValue) → (octets file : List ℕ) → (asked others : List Asked) → Type 0
AnswersUnderAlike list octets file asked others = AnswersAlike list octets asked others
    × ((q : Asked) → IsQuestion list file q → is_among others q ≡ is_among asked q)
