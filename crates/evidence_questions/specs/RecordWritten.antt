-- What is written for the questions of an evidence record, and what is returned.
use Rattle.std.specs.Prelude.{◌≡◌, ⊤, ℕ, List, ◌++◌, None, Result, Ok, Err}
use Rattle.devices.specs.Device.{raised, Stops}
use Rattle.der_core.specs.Faults.{Faults}
use Rattle.der_core.specs.Grammar.{file}
use Rattle.evidence_types.specs.EvidenceTable.{evidence_record}
use Rattle.evidence_types.specs.EvidenceValue.{EvidenceValue, EncodesEvidence}
use Rattle.trust_lists.specs.Entries.{EntryValue}
use Rattle.trust_lists.specs.Asking.{Asked}
use Rattle.check_evidence.specs.Refusing.{IsEncrypted}
use Rattle.check_evidence.specs.declared.rules.RecordRule.{RecordRule}
use Rattle.check_evidence.specs.declared.rules.RecordRule.TheVariants as rule
use Rattle.check_questions.specs.QuestionsText.{questions_text}
use Rattle.check_questions.specs.Written.{IsUntouched}
use Rattle.evidence_questions.specs.declared.fault.RecordQuestionsFault.{RecordQuestionsFault}
use Rattle.evidence_questions.specs.declared.fault.RecordQuestionsFault.TheVariants.{Record, WriteFailed}
use Rattle.evidence_questions.specs.RecordQuestions.{AreQuestionsOfRecord}

-- why octets have no questions: V1 or V2
abbrev pub HasNoQuestions : (octets : List ℕ) → RecordRule → Type 0
HasNoQuestions octets (rule.Malformed fault) = Faults (file evidence_record) octets fault
HasNoQuestions octets rule.Encrypted = IsEncrypted octets
HasNoQuestions octets rule.NoData = ⊥

-- the record that octets encode, whose data are not encrypted, or why they have no questions
abbrev pub IsOpenRecord : (octets : List ℕ) → Result EvidenceValue RecordRule → Type 0
IsOpenRecord octets (Ok v) = EncodesEvidence octets v × (v.encryption ≡ None)
IsOpenRecord octets (Err failed) = HasNoQuestions octets failed

-- the whole text was written, or after a failure of the sink a beginning of it; nothing else is returned
abbrev pub IsRecordWrittenWith : (text : List ℕ) → Result (Unit {0}) RecordQuestionsFault → (tells : Type 0)
    → (taken taken' : List ℕ) → (count count' : ℕ) → Type 0
IsRecordWrittenWith text (Ok u) tells taken taken' count count' = (tells → taken' ≡ taken ++ text) × (count' ≡ count)
IsRecordWrittenWith text (Err WriteFailed) tells taken taken' count count' = (tells → Stops taken taken' text)
    × (count' ≡ raised count)
IsRecordWrittenWith text (Err (Record failed)) tells taken taken' count count' = ⊥

-- the text of the record's questions was written, or a beginning of it
abbrev pub WritesRecord : (trust : List EntryValue) → (octets : List ℕ) → Result (Unit {0}) RecordQuestionsFault
    → (tells : Type 0) → (taken taken' : List ℕ) → (count count' : ℕ) → Type 0
WritesRecord trust octets r tells taken taken' count count' =
    (qs : List Asked) × AreQuestionsOfRecord trust octets qs
    × IsRecordWrittenWith (questions_text qs) r tells taken taken' count count'

-- what is returned for octets, and what was then written
abbrev pub IsRecordWritten : (trust : List EntryValue) → (octets : List ℕ) → Result (Unit {0}) RecordQuestionsFault
    → (tells : Type 0) → (taken taken' : List ℕ) → (count count' : ℕ) → Type 0
IsRecordWritten trust octets (Ok u) tells taken taken' count count' =
    WritesRecord trust octets (Ok u) tells taken taken' count count'
IsRecordWritten trust octets (Err WriteFailed) tells taken taken' count count' =
    WritesRecord trust octets (Err WriteFailed) tells taken taken' count count'
IsRecordWritten trust octets (Err (Record failed)) tells taken taken' count count' = HasNoQuestions octets failed
    × IsUntouched tells taken taken' count count'

abbrev pub IsMalformed : Result (Unit {0}) RecordQuestionsFault → Type 0
IsMalformed (Err (Record (rule.Malformed fault))) = ⊤
IsMalformed _ = ⊥

-- the octets don't encode an evidence record
abbrev pub EncodesNoRecord : List ℕ → Type 0
EncodesNoRecord octets = (v : EvidenceValue) → EncodesEvidence octets v → ⊥

-- the count of failures is raised by one if the sink failed, and otherwise unchanged
abbrev pub CountsRecordWrites : Result (Unit {0}) RecordQuestionsFault → (count count' : ℕ) → Type 0
CountsRecordWrites (Ok u) count count' = count' ≡ count
CountsRecordWrites (Err (Record failed)) count count' = count' ≡ count
CountsRecordWrites (Err WriteFailed) count count' = count' ≡ raised count
