use Rattle.curve_p256.proofs.Forms.{order_one}
use Rattle.curve_p256.proofs.scalar.ScalarResidue.one.Goals as goal

pub returns : goal.returns
returns c = order_one
