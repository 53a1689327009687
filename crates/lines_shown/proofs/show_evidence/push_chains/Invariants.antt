use Rattle.std.proofs.Common.{◌≡◌, ◌+◌, length}
use Rattle.std.specs.String.{string_bytes}
use Rattle.std.specs.List.{AllByRecursion}
use Rattle.evidence_types.specs.EvidenceValue.{GoodChain}
use Rattle.lines_shown.specs.EvidenceLines.{AreChainLines}
use Rattle.lines_shown.proofs.Added.{Leads}
use Rattle.lines_shown.proofs.show_evidence.push_chains.Given as goal

-- the chains that were shown and those that are left are all, and so are their lines
abbrev pub invariant-loop-stamps : goal.invariant-loop-stamps
invariant-loop-stamps l = record {
  counted : l.number + length l.left ≡ l.total;
  good : AllByRecursion GoodChain l.left;
  lines : Leads AreChainLines l.fn.chains (string_bytes l.fn.text) (string_bytes l.text) (l.number + 1) l.left;
}

abbrev pub decreases-loop-stamps : goal.decreases-loop-stamps
decreases-loop-stamps l = length l.left
