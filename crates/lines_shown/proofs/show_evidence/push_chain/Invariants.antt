use Rattle.std.proofs.Common.{◌≡◌, ◌+◌, length}
use Rattle.std.specs.String.{string_bytes}
use Rattle.std.specs.List.{AllByRecursion}
use Rattle.evidence_types.specs.StampValue.{GoodStamp}
use Rattle.lines_shown.specs.EvidenceLines.{IsStampLine}
use Rattle.lines_shown.proofs.Added.{Leads}
use Rattle.lines_shown.proofs.show_evidence.push_chain.Given as goal

-- the time-stamps that were shown and those that are left are all, and so are their lines
abbrev pub invariant-loop-stamp : goal.invariant-loop-stamp
invariant-loop-stamp l = record {
  counted : l.number + length l.left ≡ l.total;
  good : AllByRecursion GoodStamp l.left;
  lines :
      Leads (IsStampLine l.fn.chain) l.fn.stamps (string_bytes l.fn.text) (string_bytes l.text) (l.number + 1) l.left;
}

abbrev pub decreases-loop-stamp : goal.decreases-loop-stamp
decreases-loop-stamp l = length l.left
