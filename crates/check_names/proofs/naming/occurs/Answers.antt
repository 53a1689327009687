use Rattle.check_fit.proofs.OneType.{has_occurs}
use Rattle.check_names.proofs.naming.occurs.Goals as goal

pub returns : goal.returns
returns c = has_occurs c.args.attributes.now c.args.id.now c.has.result c.has.ensures
