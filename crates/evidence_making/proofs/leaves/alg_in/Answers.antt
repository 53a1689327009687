use Rattle.check_evidence.specs.StampStates.{HasAlg}
use Rattle.evidence_making.proofs.StandsOn.{by_found}
use Rattle.evidence_making.proofs.leaves.alg_in.Goals as goal

pub returns : goal.returns
returns c = by_found c.alg_of.result (HasAlg c.args.stamp.now) c.alg_of.ensures.found c.alg_of.ensures.only
