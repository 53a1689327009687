use Rattle.std.proofs.Common.{◌≡◌, ◌+◌, ◌≤◌, not, length}
use Rattle.evidence_sums.specs.LineTests.{is_line}
use Rattle.evidence_sums.specs.Lines.{first_number, lines_of}
use Rattle.evidence_sums.proofs.testing.other_line.Given as goal

-- the first other line is the first of those that are left
abbrev pub invariant-loop-left : goal.invariant-loop-left
invariant-loop-left l = record {
  numbered : l.number + length l.left ≤ length l.text + 1;
  same : first_number (λ line. not (is_line l.may_continue l.alg line)) l.number (lines_of l.left)
      ≡ first_number (λ line. not (is_line l.may_continue l.alg line)) 1 (lines_of l.text);
}

abbrev pub decreases-loop-left : goal.decreases-loop-left
decreases-loop-left l = length l.left
