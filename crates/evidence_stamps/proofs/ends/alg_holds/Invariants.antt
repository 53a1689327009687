use Rattle.std.proofs.Common.{take}
use Rattle.evidence_stamps.proofs.Holding.{SoFar}
use Rattle.evidence_stamps.proofs.ends.alg_holds.Given as goal

-- no end so far is earlier, and by those it holds or not
abbrev pub invariant-loop-end : goal.invariant-loop-end
invariant-loop-end l = SoFar l.alg l.moment l.given (take l.end-index l.ends)
