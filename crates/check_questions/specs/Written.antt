-- What is written for the questions of a file or a token, and what is returned.
use Rattle.std.specs.Prelude.{◌≡◌, ⊤, ℕ, List, ◌++◌, Result, Ok, Err}
use Rattle.devices.specs.Device.{raised, Stops}
use Rattle.der_core.specs.Faults.{Faults}
use Rattle.der_core.specs.Grammar.{file}
use Rattle.der_grammar.specs.Table.{content_info}
use Rattle.cms_types.specs.SignedDataValue.{ContentInfoValue, EncodesContentInfo, EncodesAnotherType}
use Rattle.trust_lists.specs.Entries.{EntryValue}
use Rattle.trust_lists.specs.Asking.{Asked}
use Rattle.check_questions.specs.declared.fault.QuestionsFault.{QuestionsFault}
use Rattle.check_questions.specs.declared.fault.QuestionsFault.TheVariants.{Malformed, NotSignedData, WriteFailed}
use Rattle.check_questions.specs.FileQuestions.{AreQuestionsOf, AreQuestionsOfToken}
use Rattle.check_questions.specs.QuestionsText.{questions_text}

-- the whole text was written, or after a failure of the sink a beginning of it; nothing else is returned
abbrev pub IsWrittenWith : (text : List ℕ) → Result (Unit {0}) QuestionsFault → (tells : Type 0)
    → (taken taken' : List ℕ) → (count count' : ℕ) → Type 0
IsWrittenWith text (Ok u) tells taken taken' count count' = (tells → taken' ≡ taken ++ text) × (count' ≡ count)
IsWrittenWith text (Err WriteFailed) tells taken taken' count count' = (tells → Stops taken taken' text)
    × (count' ≡ raised count)
IsWrittenWith text (Err (Malformed f)) tells taken taken' count count' = ⊥
IsWrittenWith text (Err NotSignedData) tells taken taken' count count' = ⊥

-- nothing was written, and nothing failed
abbrev pub IsUntouched : (tells : Type 0) → (taken taken' : List ℕ) → (count count' : ℕ) → Type 0
IsUntouched tells taken taken' count count' = (tells → taken' ≡ taken) × (count' ≡ count)

-- the text of questions that are these was written, or a beginning of it
abbrev pub WritesThese : (Are : List Asked → Type 0) → Result (Unit {0}) QuestionsFault
    → (tells : Type 0) → (taken taken' : List ℕ) → (count count' : ℕ) → Type 0
WritesThese Are r tells taken taken' count count' = (qs : List Asked) × Are qs
    × IsWrittenWith (questions_text qs) r tells taken taken' count count'

-- what is returned for octets of which these are the questions, and what was then written
abbrev pub IsWrittenOf : (Are : List Asked → Type 0) → (octets : List ℕ) → Result (Unit {0}) QuestionsFault
    → (tells : Type 0) → (taken taken' : List ℕ) → (count count' : ℕ) → Type 0
IsWrittenOf Are octets (Ok u) tells taken taken' count count' =
    WritesThese Are (Ok u) tells taken taken' count count'
IsWrittenOf Are octets (Err WriteFailed) tells taken taken' count count' =
    WritesThese Are (Err WriteFailed) tells taken taken' count count'
IsWrittenOf Are octets (Err (Malformed f)) tells taken taken' count count' = Faults (file content_info) octets f
    × IsUntouched tells taken taken' count count'
IsWrittenOf Are octets (Err NotSignedData) tells taken taken' count count' = EncodesAnotherType octets
    × IsUntouched tells taken taken' count count'

-- the text of the file's questions was written, or a beginning of it
abbrev pub WritesQuestions : (trust : List EntryValue) → (file : List ℕ) → Result (Unit {0}) QuestionsFault
    → (tells : Type 0) → (taken taken' : List ℕ) → (count count' : ℕ) → Type 0
WritesQuestions trust bytes r tells taken taken' count count' =
    WritesThese (AreQuestionsOf trust bytes) r tells taken taken' count count'

-- what is returned for a file, and what was then written
abbrev pub IsWritten : (trust : List EntryValue) → (file : List ℕ) → Result (Unit {0}) QuestionsFault
    → (tells : Type 0) → (taken taken' : List ℕ) → (count count' : ℕ) → Type 0
IsWritten trust bytes r tells taken taken' count count' =
    IsWrittenOf (AreQuestionsOf trust bytes) bytes r tells taken taken' count count'

-- the same for a token
abbrev pub IsTokenWritten : (trust : List EntryValue) → (token : List ℕ) → Result (Unit {0}) QuestionsFault
    → (tells : Type 0) → (taken taken' : List ℕ) → (count count' : ℕ) → Type 0
IsTokenWritten trust token r tells taken taken' count count' =
    IsWrittenOf (AreQuestionsOfToken trust token) token r tells taken taken' count count'

abbrev pub IsMalformed : Result (Unit {0}) QuestionsFault → Type 0
IsMalformed (Ok u) = ⊥
IsMalformed (Err (Malformed f)) = ⊤
IsMalformed (Err NotSignedData) = ⊥
IsMalformed (Err WriteFailed) = ⊥

-- the octets don't encode a ContentInfo
abbrev pub EncodesNothing : List ℕ → Type 0
EncodesNothing bytes = (c : ContentInfoValue) → EncodesContentInfo bytes c → ⊥

-- the count of failures is raised by one if the sink failed, and otherwise unchanged
abbrev pub CountsWrites : Result (Unit {0}) QuestionsFault → (count count' : ℕ) → Type 0
CountsWrites (Ok u) count count' = count' ≡ count
CountsWrites (Err (Malformed f)) count count' = count' ≡ count
CountsWrites (Err NotSignedData) count count' = count' ≡ count
CountsWrites (Err WriteFailed) count count' = count' ≡ raised count
