-- What is written of what a pass kept of a file: a step of the proofs.
use Rattle.std.specs.Prelude.{◌≡◌, ℕ, List, Option, Some, None, Result, Ok, Err}
use Rattle.cms_stream.specs.Opening.{OpenedValue}
use Rattle.cms_stream.specs.declared.stream_fault.StreamFault.{StreamFault}
use Rattle.cms_stream.specs.declared.stream_fault.StreamFault.TheVariants as stream
use Rattle.trust_lists.specs.Entries.{EntryValue}
use Rattle.trust_lists.specs.Asking.{Asked}
use Rattle.check_questions.specs.FileQuestions.{AreQuestions}
use Rattle.check_questions.specs.QuestionsText.{questions_text}
use Rattle.check_questions.specs.declared.fault.QuestionsFault.TheVariants.{Malformed, NotSignedData}
use Rattle.check_questions.specs.Written.{IsUntouched}
use Rattle.check_stream.specs.declared.fault.StreamQuestionsFault.TheVariants.{Questions, ReadFailed, TooLong}
use Rattle.check_stream.specs.StreamQuestions.{Returned, IsWrittenAs, IsBeforeText}

-- the text of the signers' questions was put, or a beginning of it
abbrev pub PutsSigners : (trust : List EntryValue) → OpenedValue → Returned → (tells : Type 0)
    → (taken taken' : List ℕ) → (count count' : ℕ) → Type 0
PutsSigners trust o r tells taken taken' count count' = (IsBeforeText r → ⊥) × ((qs : List Asked)
    → AreQuestions trust o.signers qs → IsWrittenAs (questions_text qs) r tells taken taken' count count')

-- the signers that a pass kept have a list of questions
abbrev pub HasQuestions : (trust : List EntryValue) → Result (Option OpenedValue) StreamFault → Type 0
HasQuestions trust (Ok (Some o)) = (qs : List Asked) × AreQuestions trust o.signers qs
HasQuestions trust pass = Unit {0}

-- what is returned if a pass stopped
abbrev pub stopped_by : StreamFault → Returned
stopped_by (stream.Malformed f) = Err (Questions (Malformed f))
stopped_by stream.ReadFailed = Err ReadFailed
stopped_by stream.TooLong = Err TooLong

-- what is then returned for a pass, and what was written
abbrev pub PutsPass : (trust : List EntryValue) → Result (Option OpenedValue) StreamFault → Returned → (tells : Type 0)
    → (taken taken' : List ℕ) → (count count' : ℕ) → Type 0
PutsPass trust (Ok (Some o)) r tells taken taken' count count' = PutsSigners trust o r tells taken taken' count count'
PutsPass trust (Ok None) r tells taken taken' count count' =
    (r ≡ Err (Questions NotSignedData)) × IsUntouched tells taken taken' count count'
PutsPass trust (Err fault) r tells taken taken' count count' =
    (r ≡ stopped_by fault) × IsUntouched tells taken taken' count count'
