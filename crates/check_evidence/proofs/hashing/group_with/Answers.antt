use Rattle.check_evidence.proofs.Joining.{group_there}
use Rattle.check_evidence.proofs.hashing.group_with.Goals as goal

pub returns-clause-group : goal.returns-clause-group
returns-clause-group c =
    group_there c.args.alg c.args.node.now c.args.values.now _ c.requires c.hashed_with.ensures.octets
