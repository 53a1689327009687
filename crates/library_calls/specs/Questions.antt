-- What the call says that lists the questions of a file.
use Rattle.std.specs.Prelude.{◌≡◌, ◌↔◌, ◌⊎◌, ⊤, ℕ, List}
use Rattle.der_core.specs.Faults.{Faults}
use Rattle.der_core.specs.Grammar.{file}
use Rattle.der_grammar.specs.Table.{content_info}
use Rattle.cms_types.specs.SignedDataValue.{EncodesAnotherType}
use Rattle.trust_lists.specs.Entries.{EntryValue}
use Rattle.trust_lists.specs.Asking.{Asked}
use Rattle.check_questions.specs.declared.fault.QuestionsFault.{QuestionsFault}
use Rattle.check_questions.specs.declared.fault.QuestionsFault.TheVariants.{Malformed, NotSignedData, WriteFailed}
use Rattle.check_questions.specs.FileQuestions.{AreQuestionsOf}
use Rattle.check_questions.specs.QuestionsText.{questions_text}
use Rattle.check_questions.specs.Written.{EncodesNothing}
use Rattle.library_answers.specs.declared.answer.Answer.{Answer}
use Rattle.library_answers.specs.Failures.{IsMade}
use Rattle.library_answers.specs.Numbers.{nothing, ruled, with_fault}

-- Q1 and Q2: 81 is the letter Q. A lack of memory is no verdict
abbrev pub unasked_numbers : QuestionsFault → Answer
unasked_numbers (Malformed fault) = with_fault (ruled 3 81 1) fault
unasked_numbers NotSignedData = ruled 2 81 2
unasked_numbers WriteFailed = nothing

abbrev pub unasked_status : QuestionsFault → ℕ
unasked_status (Malformed fault) = 3
unasked_status NotSignedData = 2
unasked_status WriteFailed = 7

-- the octets have the fault, or are of another type; or memory was refused
abbrev pub IsUnasked : (octets : List ℕ) → QuestionsFault → Type 0
IsUnasked octets (Malformed f) = Faults (file content_info) octets f
IsUnasked octets NotSignedData = EncodesAnotherType octets
IsUnasked octets WriteFailed = ⊤

abbrev pub IsMalformed : QuestionsFault → Type 0
IsMalformed (Malformed f) = ⊤
IsMalformed NotSignedData = ⊥
IsMalformed WriteFailed = ⊥

-- this text, unless memory was refused
abbrev pub IsAskedIfMemory : (octets : List ℕ) (said : Answer)
    (status : ℕ) (before : List ℕ) (size : ℕ) (after : List ℕ) → Type 0
IsAskedIfMemory octets said status before size after = IsMade octets said status before size after
    ⊎ ((status ≡ 7) × (said ≡ nothing))

-- why there are no questions: in numbers, by the status, and with no text
abbrev pub SaysUnasked : (octets : List ℕ) (said : Answer) (status : ℕ) (before : List ℕ) (size : ℕ) (after : List ℕ)
    → Type 0
SaysUnasked octets said status before size after = (f : QuestionsFault) × IsUnasked octets f
    × (said ≡ unasked_numbers f) × (status ≡ unasked_status f) × (size ≡ 0) × (after ≡ before)

-- what is said of the questions of a file
pub record IsQuestioned (list : List EntryValue) (octets : List ℕ) (said : Answer) (status : ℕ) (before : List ℕ)
    (size : ℕ) (after : List ℕ) : Type 0 where
  -- the file's questions, as their text, or why there are none
  pub questions : ((qs : List Asked) × AreQuestionsOf list octets qs
      × IsMade (questions_text qs) said status before size after) ⊎ SaysUnasked octets said status before size after
  -- for every list of the file's questions, its text, if there is memory
  pub only : (qs : List Asked) → AreQuestionsOf list octets qs
      → IsAskedIfMemory (questions_text qs) said status before size after
  -- malformed exactly if the octets don't encode a ContentInfo
  pub malformed : (status ≡ 3) ↔ EncodesNothing octets
  -- refused exactly if they encode one of another type
  pub another : (status ≡ 2) ↔ EncodesAnotherType octets
