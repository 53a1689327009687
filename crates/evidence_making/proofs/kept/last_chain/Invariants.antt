use Rattle.std.proofs.Common.{length}
use Rattle.evidence_making.proofs.Parts.{IsPast}
use Rattle.evidence_making.proofs.kept.last_chain.Given as goal

abbrev pub invariant-loop-chain : goal.invariant-loop-chain
invariant-loop-chain l = IsPast l.chains l.left l.last.before.now l.last.stamps.now

abbrev pub decreases-loop-chain : goal.decreases-loop-chain
decreases-loop-chain l = length l.left
