use Rattle.curve_p384.proofs.Forms.{order_one}
use Rattle.curve_p384.proofs.scalar.ScalarResidue.one.Goals as goal

pub returns : goal.returns
returns c = order_one
