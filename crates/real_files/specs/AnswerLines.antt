-- The line of whether a file and a content fit.
use Rattle.std.specs.Prelude.{ℕ, List, ◌++◌, Result, Ok, Err, codes}
use Rattle.std.specs.Fmt.{decimal}
use Rattle.check_fit.specs.declared.rules.Refused.{Refused}
use Rattle.check_fit.specs.RuleTexts.{refused_text}
use Rattle.lines_shown.specs.Lines.{line}

-- how many signers fit, or why the file is refused
abbrev pub answer_line : (name : List ℕ) → Result ℕ Refused → List ℕ
answer_line name (Ok count) = line name (codes "fits " ++ decimal count)
answer_line name (Err refused) = line name (refused_text refused)
