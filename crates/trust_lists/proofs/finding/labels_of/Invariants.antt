use Rattle.std.proofs.Common.{take}
use Rattle.trust_lists.specs.Marks.{AreMarked}
use Rattle.trust_lists.proofs.finding.labels_of.Given as goal

-- the labels of the entries so far
abbrev pub invariant-loop-entry : goal.invariant-loop-entry
invariant-loop-entry l = AreMarked l.by (take l.entry-index l.entries) l.labels.items
