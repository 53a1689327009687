-- What the steps of writing questions hold.
use Rattle.std.specs.Prelude.{ℕ, List, Result, Ok, Err}
use Rattle.devices.specs.Device.{Wrote}
use Rattle.devices.specs.declared.sink.SinkFault.{SinkFault}
use Rattle.der_core.specs.Faults.{Faults}
use Rattle.der_core.specs.Grammar.{file}
use Rattle.der_grammar.specs.Table.{content_info}
use Rattle.cms_types.specs.SignedDataValue.{SignedDataValue, EncodesSignedData, EncodesAnotherType}
use Rattle.trust_lists.specs.Asking.{Asked}
use Rattle.check_questions.specs.declared.fault.QuestionsFault.{QuestionsFault}
use Rattle.check_questions.specs.declared.fault.QuestionsFault.TheVariants.{Malformed, NotSignedData, WriteFailed}
use Rattle.check_questions.specs.QuestionsText.{question_lines}

-- the SignedData that octets encode, or why they encode none
abbrev pub IsOpened : (octets : List ℕ) → Result SignedDataValue QuestionsFault → Type 0
IsOpened octets (Ok v) = EncodesSignedData octets v
IsOpened octets (Err (Malformed f)) = Faults (file content_info) octets f
IsOpened octets (Err NotSignedData) = EncodesAnotherType octets
IsOpened octets (Err WriteFailed) = ⊥

-- for all questions that are these, their lines were written, or after a failure a beginning of them
abbrev pub PutsLines : (List Asked → Type 0) → Result (Unit {0}) SinkFault → (tells : Type 0)
    → (taken taken' : List ℕ) → (count count' : ℕ) → Type 0
PutsLines Are r tells taken taken' count count' = (qs : List Asked) → Are qs
    → Wrote r tells taken taken' count count' (question_lines qs)
