-- The texts of the faults of answers lists.
use Rattle.std.specs.Prelude.{ℕ, List, ◌++◌, codes}
use Rattle.std.specs.Fmt.{decimal}
use Rattle.list_answers.specs.declared.answers_fault.AnswersRule.{AnswersRule}
use Rattle.list_answers.specs.declared.answers_fault.AnswersRule.TheVariants as answers
use Rattle.list_answers.specs.declared.answers_fault.AnswersFault.{AnswersFault}

-- the code and the name
abbrev pub answers_rule_text : AnswersRule → List ℕ
answers_rule_text answers.Version = codes "B1 Version"
answers_rule_text answers.Line = codes "B2 Line"
answers_rule_text answers.OutOfMemory = codes "B3 OutOfMemory"

-- the same and where it is
abbrev pub answers_fault_text : AnswersFault → List ℕ
answers_fault_text f = answers_rule_text f.rule ++ codes " at line " ++ decimal f.line
