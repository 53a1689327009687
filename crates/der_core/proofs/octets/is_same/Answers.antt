use Rattle.std.proofs.Common.{◌∙◌}
use Rattle.der_core.proofs.SameOctets.{pointwise_same}
use Rattle.der_core.proofs.octets.is_same.Goals as goal

pub returns : goal.returns
returns c = c.eq.ensures ∙ pointwise_same c.args.octets.now c.args.others.now
