use Rattle.std.proofs.Common.{◌≡◌, ◌+◌, ◌≤◌, not, length}
use Rattle.std.specs.Str.{IsUtf8, is_utf8}
use Rattle.evidence_sums.specs.Lines.{first_number}
use Rattle.cli_making.proofs.Walked.{AllIf}
use Rattle.cli_making.proofs.names.test_names.Given as goal

-- the first line whose name isn't text is the first of those that are left
abbrev pub invariant-loop-sum : goal.invariant-loop-sum
invariant-loop-sum l = record {
  numbered : l.line + length l.left ≤ length l.sums + 1;
  named : AllIf (λ s. IsUtf8 s.name) l.left l.sums;
  same : first_number (λ s. not (is_utf8 s.name)) l.line l.left ≡ first_number (λ s. not (is_utf8 s.name)) 1 l.sums;
}

abbrev pub decreases-loop-sum : goal.decreases-loop-sum
decreases-loop-sum l = length l.left
