use Rattle.check_evidence.proofs.Joining.{group_here}
use Rattle.check_evidence.proofs.hashing.group_of.Goals as goal

pub returns-clause-group : goal.returns-clause-group
returns-clause-group c = group_here c.args.alg c.args.values.now _ c.requires c.hashed.ensures.octets
