use Rattle.judge_evidence.specs.Terms.{grounds_of}
use Rattle.judge_evidence.proofs.Neighbours.{how_many_left}
use Rattle.judge_evidence.proofs.Loops.{IsAtPlace}
use Rattle.judge_evidence.proofs.walk.judge_chains.Given as goal

-- what is known of the places before, and what the token at this one states
abbrev pub invariant-loop-run : goal.invariant-loop-run
invariant-loop-run g l = IsAtPlace (grounds_of l.terms (g.V.Verifier.vouches l.initial.verifier)) l.terms l.chains
    l.digests l.place l.run l.its l.checker (g.V.Verifier.vouches l.verifier)
    (λ test. g.V.Verifier.asked_only test l.initial.verifier l.verifier)
    (g.V.Verifier.failures l.initial.verifier) (g.V.Verifier.failures l.verifier)

abbrev pub decreases-loop-run : goal.decreases-loop-run
decreases-loop-run g l = how_many_left l.place
