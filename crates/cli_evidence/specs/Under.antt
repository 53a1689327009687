-- What `check --evidence` prints for a signed file, a content, an evidence record, a trust list and an answers list.
-- `holds` is what an open file holds, if that is known. Both files are read whole, once: the octets that are digested
-- for the record are those that are judged.
use Rattle.std.specs.Prelude.{◌≡◌, ◌⊎◌, ⊤, ℕ, true, false, List, Option, None, Some, Ok, Err, IsSomeAnd}
use Rattle.std.specs.Borrow.{Bor}
use Rattle.digests.specs.declared.set.Algs.{Algs}
use Rattle.check_evidence.specs.Grounds.{Grounds}
use Rattle.check_evidence.specs.declared.rules.RecordRule.{RecordRule}
use Rattle.check_evidence.specs.declared.rules.EvidenceRefused.TheVariants as evidence
use Rattle.check_evidence.specs.Refusing.{RecordFails}
use Rattle.check_fit.specs.declared.rules.DeviceFault.TheVariants as device
use Rattle.check_fit.specs.declared.rules.Refused.TheVariants as signed
use Rattle.check_under.specs.Under.{YesUnder}
use Rattle.check_under.specs.UnderVerdicts.{IsVerdictUnder}
use Rattle.check_under.specs.declared.refused.UnderRefused.{UnderRefused}
use Rattle.check_under.specs.declared.refused.UnderRefused.TheVariants as refused
use Rattle.der_grammar.specs.TooLarge.{IsTooLarge}
use Rattle.judge_evidence.specs.Ordering.{IsRecordOutOfOrder}
use Rattle.judge_evidence.specs.RecordVerdicts.{IsWanted}
use Rattle.lines_report.specs.VerdictLine.{IsVerdictLine}
use Rattle.cli_tasks.specs.declared.task.UnderWords.{UnderWords}
use Rattle.cli_failures.specs.declared.failure.Failure.{Failure}
use Rattle.cli_failures.specs.declared.failure.Failure.TheVariants as failure
use Rattle.cli_failures.specs.Files.{IsFailureToRead, IsHeld}
use Rattle.cli_commands.specs.Rooms.{IsLimit}
use Rattle.cli_evidence.specs.Checking.{IsGroundsBy, RefusesBy}

-- these are all the octets of the content's file, if the words name one, and there is none otherwise
abbrev pub IsHandedIn : {F : Type 0} → (holds : F → Option (List ℕ)) → (path : Option (Bor (List ℕ)))
    → (handed : Option (List ℕ)) → Type 0
IsHandedIn holds None None = ⊤
IsHandedIn holds None (Some content) = ⊥
IsHandedIn holds (Some path) None = ⊥
IsHandedIn holds (Some path) (Some content) = IsHeld holds content

-- what is checked: the grounds, and what files hold: the record, the signed file, and the content. The record may have
-- been made for other files too.
pub record IsCheckedUnder {F : Type 0} (holds : F → Option (List ℕ)) (words : UnderWords) (g : Grounds)
    (octets file : List ℕ) (handed : Option (List ℕ)) : Type 0 where
  pub grounds : IsGroundsBy holds words.ends.items words.at false g
  pub record_held : IsHeld holds octets
  pub file_held : IsHeld holds file
  pub content_held : IsHandedIn holds words.content handed

-- the file is accepted under the record, and the text says so
abbrev pub AcceptsUnder : {F : Type 0} → (holds : F → Option (List ℕ)) → UnderWords → (text : List ℕ) → Type 0
AcceptsUnder holds words text = (g : Grounds) × (octets file : List ℕ) × (handed : Option (List ℕ)) × (m : ℕ)
    × IsCheckedUnder holds words g octets file handed × YesUnder g octets file handed m × IsVerdictLine (Ok m) text

-- ---- why it is not accepted

-- the failure that says why: of the record, which it names, or of the file
abbrev pub failure_under : UnderRefused → Failure
failure_under (refused.Evidence why) = failure.Unevidenced (record { refused = why })
failure_under (refused.Signed why) = failure.Refused why

-- V1 or V2: the record of a file fails a rule, whatever the data are
abbrev pub IsUnopenedUnder : {F : Type 0} → (holds : F → Option (List ℕ)) → Failure → Type 0
IsUnopenedUnder holds f = (octets : List ℕ) × (failed : RecordRule) × IsHeld holds octets
    × ((data_objects : List (List ℕ)) → RecordFails octets data_objects failed)
    × (f ≡ failure.Unevidenced (record { refused = evidence.Record failed }))

-- how a device may have failed, if the reason is that one did: X3, as more must be kept of the file than this limit; or
-- X4, as a list of the record is out of order. No other can fail, since all octets were read before.
abbrev pub IsFaultWithin : (octets file : List ℕ) → (limit : ℕ) → UnderRefused → Type 0
IsFaultWithin octets file limit (refused.Signed (signed.Device device.TooLong)) = IsTooLarge file limit
IsFaultWithin octets file limit (refused.Signed (signed.Device fault)) = ⊥
IsFaultWithin octets file limit (refused.Evidence (evidence.Device device.OutOfMemory)) = IsRecordOutOfOrder octets
IsFaultWithin octets file limit (refused.Evidence (evidence.Device fault)) = ⊥
IsFaultWithin octets file limit why = ⊤

-- the limit is that of the words, or 64 MiB
abbrev pub IsFaultUnder : UnderWords → (octets file : List ℕ) → UnderRefused → Type 0
IsFaultUnder words octets file why =
    (limit : ℕ) × IsLimit words.buffer true limit × IsFaultWithin octets file limit why

-- the record is refused for the file and the content, or shows them, and the file is refused; or a device failed
abbrev pub IsRefusalUnder : {F : Type 0} → (holds : F → Option (List ℕ)) → UnderWords → Failure → Type 0
IsRefusalUnder holds words f =
    (g : Grounds) × (octets file : List ℕ) × (handed : Option (List ℕ)) × (why : UnderRefused)
    × IsCheckedUnder holds words g octets file handed × IsVerdictUnder g octets file handed (Err why)
    × IsFaultUnder words octets file why × (f ≡ failure_under why)

-- a record whose data are open is in a file: the signed file or the content can't be read, or there is a refusal
abbrev pub RefusesSigned : {F : Type 0} → (holds : F → Option (List ℕ)) → UnderWords → Failure → Type 0
RefusesSigned holds words f = (octets : List ℕ) × (wanted : Algs) × IsHeld holds octets × IsWanted octets (Ok wanted)
    × (IsFailureToRead words.file f ⊎ (IsSomeAnd words.content (λ path. IsFailureToRead path f)
    ⊎ IsRefusalUnder holds words f))

-- the file of the record can't be read, V1, V2, or the signed file is refused
abbrev pub RefusesRecordUnder : {F : Type 0} → (holds : F → Option (List ℕ)) → UnderWords → Failure → Type 0
RefusesRecordUnder holds words f =
    IsFailureToRead words.record f ⊎ (IsUnopenedUnder holds f ⊎ RefusesSigned holds words f)

-- memory runs out; or the first of these fails: the words for ends, the one for the moment, the trust list, the answers
-- list, the record, the signed file, the content, what the record shows, and what is said of the signed file
abbrev pub RefusesUnder : {F : Type 0} → (holds : F → Option (List ℕ)) → UnderWords → Failure → Type 0
RefusesUnder holds words f =
    RefusesBy holds words.ends.items words.at words.trust words.answers (RefusesRecordUnder holds words) f
