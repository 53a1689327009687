use Rattle.std.proofs.Common.{◌≡◌, ◌+◌, ◌≤◌, true, not, length}
use Rattle.std.specs.List.{list_all}
use Rattle.evidence_sums.specs.LineTests.{is_line, is_named}
use Rattle.evidence_sums.specs.Lines.{first_number, lines_of}
use Rattle.evidence_sums.proofs.testing.other_name.Given as goal

-- the first other name is the first of those that are left, all of which are in lines of a text
abbrev pub invariant-loop-left : goal.invariant-loop-left
invariant-loop-left l = record {
  numbered : l.number + length l.left ≤ length l.text + 1;
  formed : list_all (is_line l.may_continue l.alg) (lines_of l.left) ≡ true;
  same : first_number (λ line. not (is_named l.may_continue l.alg line)) l.number (lines_of l.left)
      ≡ first_number (λ line. not (is_named l.may_continue l.alg line)) 1 (lines_of l.text);
}

abbrev pub decreases-loop-left : goal.decreases-loop-left
decreases-loop-left l = length l.left
