-- The line of each fault.
use Rattle.std.specs.Prelude.{ℕ, List, ◌++◌, codes}
use Rattle.der_core.specs.FaultTexts.{fault_text}
use Rattle.check_questions.specs.declared.fault.QuestionsFault.{QuestionsFault}
use Rattle.check_questions.specs.declared.fault.QuestionsFault.TheVariants.{Malformed, NotSignedData, WriteFailed}

abbrev pub questions_fault_text : QuestionsFault → List ℕ
questions_fault_text (Malformed f) = codes "malformed " ++ fault_text f
questions_fault_text NotSignedData = codes "refused Q2 NotSignedData"
questions_fault_text WriteFailed = codes "failed write -"
