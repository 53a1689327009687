use Rattle.std.proofs.Common.{length}
use Rattle.list_answers.proofs.Behind.{Before}
use Rattle.list_answers.proofs.answers.test.Given as goal

-- the lines before those that are left state questions
abbrev pub invariant-loop-line : goal.invariant-loop-line
invariant-loop-line l = Before l.initial.left l.left

abbrev pub decreases-loop-line : goal.decreases-loop-line
decreases-loop-line l = length l.left
