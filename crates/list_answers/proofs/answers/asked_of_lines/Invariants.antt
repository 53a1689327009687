use Rattle.std.proofs.Common.{◌≡◌, ◌≤◌, length}
use Rattle.list_answers.specs.AnswersText.{asked_of_lines, behind}
use Rattle.list_answers.proofs.answers.asked_of_lines.Given as goal

-- the questions so far, and those of the lines that are left
abbrev pub invariant-loop-line : goal.invariant-loop-line
invariant-loop-line l = record {
  asked : asked_of_lines l.initial.left ≡ behind l.found.items (asked_of_lines l.left);
  fewer : length l.left ≤ length l.initial.left;
}

abbrev pub decreases-loop-line : goal.decreases-loop-line
decreases-loop-line l = length l.left
