-- The line of each fault.
use Rattle.std.specs.Prelude.{ℕ, List, codes}
use Rattle.check_questions.specs.FaultTexts.{questions_fault_text}
use Rattle.check_stream.specs.declared.fault.StreamQuestionsFault.{StreamQuestionsFault}
use Rattle.check_stream.specs.declared.fault.StreamQuestionsFault.TheVariants.{Questions, ReadFailed, TooLong}

abbrev pub stream_questions_fault_text : StreamQuestionsFault → List ℕ
stream_questions_fault_text (Questions f) = questions_fault_text f
stream_questions_fault_text ReadFailed = codes "failed X1 ReadFailed"
stream_questions_fault_text TooLong = codes "failed X3 TooLong"
