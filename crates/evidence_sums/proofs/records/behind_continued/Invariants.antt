use Rattle.std.proofs.Common.{◌≡◌, length}
use Rattle.evidence_sums.specs.Lines.{lines_of}
use Rattle.evidence_sums.specs.Walks.{behind_continued}
use Rattle.evidence_sums.proofs.records.behind_continued.Given as goal

-- all lines so far were passed over
abbrev pub invariant-loop-line : goal.invariant-loop-line
invariant-loop-line l = behind_continued (lines_of l.left) ≡ behind_continued (lines_of l.text)

abbrev pub decreases-loop-line : goal.decreases-loop-line
decreases-loop-line l = length l.left
