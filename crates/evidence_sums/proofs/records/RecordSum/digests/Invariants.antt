use Rattle.std.proofs.Common.{◌≡◌, ◌++◌, true, length}
use Rattle.std.specs.List.{list_all}
use Rattle.evidence_sums.specs.Lines.{lines_of}
use Rattle.evidence_sums.specs.Records.{continued, is_record_line}
use Rattle.evidence_sums.proofs.records.RecordSum.digests.Given as goal

-- the digests so far, and those of the lines that are left and continue the record, are all
abbrev pub invariant-loop-left : goal.invariant-loop-left
invariant-loop-left l = record {
  formed : list_all (is_record_line l.self-inside.alg) (lines_of l.left) ≡ true;
  same : l.digests.items ++ continued l.self-inside.alg (lines_of l.left) ≡ l.self.digests;
}

abbrev pub decreases-loop-left : goal.decreases-loop-left
decreases-loop-left l = length l.left
