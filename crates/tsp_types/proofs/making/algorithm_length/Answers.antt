use Rattle.std.proofs.Common.{arith, ap}
use Rattle.std.specs.Prelude.{length}
use Rattle.digests.proofs.Named.{contents_short}
use Rattle.tsp_types.proofs.LengthsMade.{algorithm_parts_length}
use Rattle.tsp_types.proofs.making.algorithm_length.Goals as goal

pub returns-clause-size : goal.returns-clause-size
returns-clause-size c = omega (arith, ap length c.oid_contents.ensures, algorithm_parts_length c.args.alg)

pub returns-clause-bound : goal.returns-clause-bound
returns-clause-bound c = omega (arith, ap length c.oid_contents.ensures, contents_short c.args.alg)
