use Rattle.std.proofs.Common.{length, ap, arith}
use Rattle.evidence_making.proofs.Lengths.{plain_length}
use Rattle.evidence_making.proofs.algorithm.algorithm_length.Goals as goal

pub returns-clause-size : goal.returns-clause-size
returns-clause-size c = λ t. omega (arith, ap length c.oid_contents.ensures, plain_length t c.args.alg)
