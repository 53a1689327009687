use Rattle.curve_p256.proofs.Forms.{prime_one}
use Rattle.curve_p256.proofs.coordinate.CoordinateResidue.one.Goals as goal

pub returns : goal.returns
returns c = prime_one
