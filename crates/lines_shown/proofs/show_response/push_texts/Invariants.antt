use Rattle.std.proofs.Common.{◌≡◌, ◌++◌, length}
use Rattle.std.specs.String.{string_bytes}
use Rattle.lines_shown.specs.ResponseLines.{text_lines}
use Rattle.lines_shown.proofs.show_response.push_texts.Given as goal

-- the lines so far, and those of the texts that are left, are all
abbrev pub invariant-loop-first : goal.invariant-loop-first
invariant-loop-first l = string_bytes l.text ++ text_lines l.left ≡ string_bytes l.fn.text ++ text_lines l.fn.texts

abbrev pub decreases-loop-first : goal.decreases-loop-first
decreases-loop-first l = length l.left
