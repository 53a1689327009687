-- What `evidence check` prints for an evidence record, data, a trust list and an answers list. `holds` is what an open
-- file holds, if that is known. Begin here.
--
-- The words are accepted with a moment, if a record that a file holds shows it for data that files hold, by the lists
-- that files hold: `Shows` of check_evidence/specs/Showing.antt (RFC 4998, 5.3). Otherwise it is said why not.
use Rattle.std.specs.Prelude.{◌≡◌, ◌⊎◌, ℕ, Bool, List, Option, None, Ok, MatchOption, IsSomeAnd, Any, codes}
use Rattle.std.specs.Borrow.{Bor}
use Rattle.std.specs.List.{AllZip}
use Rattle.check_fit.specs.declared.rules.DeviceFault.{DeviceFault}
use Rattle.check_fit.specs.declared.rules.DeviceFault.TheVariants as device
use Rattle.digests.specs.declared.set.Algs.{Algs}
use Rattle.trust_lists.specs.Asking.{Asked, is_among}
use Rattle.trust_lists.specs.Entries.{EntryValue}
use Rattle.list_answers.specs.AnswersText.{answers_of}
use Rattle.check_evidence.specs.Grounds.{AlgEnd, Grounds}
use Rattle.check_evidence.specs.Showing.{Shows}
use Rattle.check_evidence.specs.Refusing.{RecordFails, Refuses}
use Rattle.check_evidence.specs.declared.rules.RecordRule.{RecordRule}
use Rattle.check_evidence.specs.declared.rules.EvidenceRefused.{EvidenceRefused}
use Rattle.check_evidence.specs.declared.rules.EvidenceRefused.TheVariants as refused
use Rattle.judge_evidence.specs.Ordering.{IsRecordOutOfOrder}
use Rattle.judge_evidence.specs.RecordVerdicts.{IsWanted}
use Rattle.lines_report.specs.VerdictLine.{IsVerdictLine}
use Rattle.cli_tasks.specs.declared.task.EvidenceWords.{EvidenceWords}
use Rattle.cli_failures.specs.declared.failure.Failure.{Failure}
use Rattle.cli_failures.specs.declared.failure.Failure.TheVariants as failure
use Rattle.cli_failures.specs.Causes.{Names}
use Rattle.cli_failures.specs.Ends.{IsEndIn, IsTimeIn, StatesNoEnd, StatesNoTime}
use Rattle.cli_failures.specs.Files.{IsFailureToOpen, IsFailureToRead, IsHeld}
use Rattle.cli_commands.specs.Judging.{IsContentHeld}
use Rattle.cli_commands.specs.Lists.{IsAnswersOf, IsTrustOf, IsFailureOfTrust, IsFailureOfAnswers}
use Rattle.cli_commands.specs.Stamping.{IsUnread}

-- the words state these ends of algorithms, in their order
abbrev pub AreEndsIn : (words : List (Bor (List ℕ))) → List AlgEnd → Type 0
AreEndsIn words ends = AllZip (λ word e. IsEndIn word.now e) words ends

-- this is the moment that a word states, if there is one
abbrev pub IsMomentAt : (at : Option (Bor (List ℕ))) → Option ℕ → Type 0
IsMomentAt at moment = MatchOption at (moment ≡ None) (λ text. IsSomeAnd moment (IsTimeIn text.now))

-- the grounds of a check: the text of a file is the trust list, and that of another file is an answers list; its
-- questions are vouched for, and no others; words state the rest: ends, a moment, and whether the record may have other
-- hash values than those of the data
pub record IsGroundsBy {F : Type 0} (holds : F → Option (List ℕ)) (end_words : List (Bor (List ℕ)))
    (at_word : Option (Bor (List ℕ))) (is_whole : Bool) (g : Grounds) : Type 0 where
  pub trust : IsTrustOf holds g.trust
  pub text : List ℕ
  pub read : IsHeld holds text
  pub asked : List Asked
  pub says : answers_of text ≡ Ok asked
  pub vouches : (q : Asked) → g.vouches q ≡ is_among asked q
  pub ends : AreEndsIn end_words g.ends
  pub at : IsMomentAt at_word g.at
  pub whole : g.whole ≡ is_whole

abbrev pub IsGrounds : {F : Type 0} → (holds : F → Option (List ℕ)) → EvidenceWords → Grounds → Type 0
IsGrounds holds words g = IsGroundsBy holds words.ends.items words.at words.whole g

-- these are all the octets of the files of data, one for each path, in their order
abbrev pub AreHeld : {F : Type 0} → (holds : F → Option (List ℕ)) → (paths : List (Bor (List ℕ)))
    → (data_objects : List (List ℕ)) → Type 0
AreHeld holds paths data_objects = AllZip (λ path octets. IsContentHeld holds octets) paths data_objects

-- what is checked: the grounds, a record that a file holds, and the data
pub record IsChecked {F : Type 0} (holds : F → Option (List ℕ)) (words : EvidenceWords) (g : Grounds)
    (octets : List ℕ) (data_objects : List (List ℕ)) : Type 0 where
  pub grounds : IsGrounds holds words g
  pub record_held : IsHeld holds octets
  pub data_held : AreHeld holds words.data.items data_objects

-- the record shows a moment for the data, and the text says so
abbrev pub AcceptsData : {F : Type 0} → (holds : F → Option (List ℕ)) → EvidenceWords → (text : List ℕ) → Type 0
AcceptsData holds words text = (g : Grounds) × (octets : List ℕ) × (data_objects : List (List ℕ)) × (m : ℕ)
    × IsChecked holds words g octets data_objects × Shows g octets data_objects m × IsVerdictLine (Ok m) text

-- ---- why it is not accepted

-- words state ends of algorithms
abbrev pub AreEndsStatedBy : (words : List (Bor (List ℕ))) → Type 0
AreEndsStatedBy words = (ends : List AlgEnd) × AreEndsIn words ends

-- a word states no end of an algorithm; or the words for ends do, and the one for the moment states none
abbrev pub IsUnstatedBy : (ends : List (Bor (List ℕ))) → (at : Option (Bor (List ℕ))) → Failure → Type 0
IsUnstatedBy ends at f = (Names (codes "end") f × Any (λ word. StatesNoEnd word.now) ends)
    ⊎ (Names (codes "at") f × AreEndsStatedBy ends × IsSomeAnd at (λ text. StatesNoTime text.now))

-- words state ends and, where one is given, a moment
abbrev pub AreStatedBy : (ends : List (Bor (List ℕ))) → (at : Option (Bor (List ℕ))) → Type 0
AreStatedBy ends at = AreEndsStatedBy ends × ((moment : Option ℕ) × IsMomentAt at moment)

-- a list's file can't be read or isn't a list, the trust list's first; or both are read, and there is a later failure
abbrev pub RefusesListsBy : {F : Type 0} → (holds : F → Option (List ℕ)) → (trust answers : Bor (List ℕ))
    → (Later : Failure → Type 0) → Failure → Type 0
RefusesListsBy holds trust answers Later f = IsFailureOfTrust holds trust f
    ⊎ ((entries : List EntryValue) × IsTrustOf holds entries × (IsFailureOfAnswers holds answers f
    ⊎ ((vouched : List Asked) × IsAnswersOf holds vouched × Later f)))

-- memory runs out; or the first of these fails: the words for ends, the one for the moment, the trust list, the answers
-- list, and what comes later
abbrev pub RefusesBy : {F : Type 0} → (holds : F → Option (List ℕ)) → (ends : List (Bor (List ℕ)))
    → (at : Option (Bor (List ℕ))) → (trust answers : Bor (List ℕ)) → (Later : Failure → Type 0) → Failure → Type 0
RefusesBy holds ends at trust answers Later f = (f ≡ failure.Memory)
    ⊎ (IsUnstatedBy ends at f ⊎ (AreStatedBy ends at × RefusesListsBy holds trust answers Later f))

-- V1 or V2: the record of a file fails a rule, whatever the data are
abbrev pub IsUnopened : {F : Type 0} → (holds : F → Option (List ℕ)) → Failure → Type 0
IsUnopened holds f = (octets : List ℕ) × (failed : RecordRule) × IsHeld holds octets
    × ((data_objects : List (List ℕ)) → RecordFails octets data_objects failed)
    × (f ≡ failure.Unshown (refused.Record failed))

-- X1 or X5: a file of data isn't read to its end; X4: memory was refused to sort a list of the record, which a file
-- holds and which has one out of order
abbrev pub IsFault : {F : Type 0} → (holds : F → Option (List ℕ)) → DeviceFault → Type 0
IsFault holds device.OutOfMemory = (octets : List ℕ) × IsHeld holds octets × IsRecordOutOfOrder octets
IsFault holds fault = IsUnread holds fault

-- a device failed, or the record is refused
abbrev pub IsRefusal : {F : Type 0} → (holds : F → Option (List ℕ)) → EvidenceWords → Failure → Type 0
IsRefusal holds words f = ((fault : DeviceFault) × IsFault holds fault × (f ≡ failure.Unshown (refused.Device fault)))
    ⊎ ((g : Grounds) × (octets : List ℕ) × (data_objects : List (List ℕ)) × (why : EvidenceRefused)
    × IsChecked holds words g octets data_objects × Refuses g octets data_objects why × (f ≡ failure.Unshown why))

-- the data of an open record, which a file holds: a file of them can't be opened, a device failed, or the record is
-- refused
abbrev pub RefusesOpen : {F : Type 0} → (holds : F → Option (List ℕ)) → EvidenceWords → Failure → Type 0
RefusesOpen holds words f = (octets : List ℕ) × (wanted : Algs) × IsHeld holds octets × IsWanted octets (Ok wanted)
    × (Any (λ path. IsFailureToOpen path f) words.data.items ⊎ IsRefusal holds words f)

-- the file of the record can't be read, V1, V2, or its data have a fault
abbrev pub RefusesRecord : {F : Type 0} → (holds : F → Option (List ℕ)) → EvidenceWords → Failure → Type 0
RefusesRecord holds words f = IsFailureToRead words.record f ⊎ (IsUnopened holds f ⊎ RefusesOpen holds words f)

-- memory runs out; or the first of these fails: the words for ends, the one for the moment, the trust list, the answers
-- list, the record, the files of data, and what the record shows
abbrev pub RefusesData : {F : Type 0} → (holds : F → Option (List ℕ)) → EvidenceWords → Failure → Type 0
RefusesData holds words f =
    RefusesBy holds words.ends.items words.at words.trust words.answers (RefusesRecord holds words) f
