use Rattle.tsp_types.proofs.LengthsMade.{imprint_sum}
use Rattle.tsp_types.proofs.making.imprint_length.Goals as goal

pub returns-clause-size : goal.returns-clause-size
returns-clause-size c =
    (imprint_sum c.args.digest.now c.alg.result c.algorithm_length.result c.bytes.result.now c.alg.ensures
    c.algorithm_length.ensures.size c.bytes.ensures.octets c.bytes.ensures.count).0

pub returns-clause-bound : goal.returns-clause-bound
returns-clause-bound c =
    (imprint_sum c.args.digest.now c.alg.result c.algorithm_length.result c.bytes.result.now c.alg.ensures
    c.algorithm_length.ensures.size c.bytes.ensures.octets c.bytes.ensures.count).1
