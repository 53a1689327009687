use Rattle.judge_evidence.proofs.Neighbours.{how_many_left}
use Rattle.judge_evidence.proofs.Wanting.{AreWanted}
use Rattle.judge_evidence.proofs.wanted.wanted_of.Given as goal

abbrev pub invariant-loop-next : goal.invariant-loop-next
invariant-loop-next l = AreWanted l.chains l.place l.wanted

abbrev pub decreases-loop-next : goal.decreases-loop-next
decreases-loop-next l = how_many_left l.place
