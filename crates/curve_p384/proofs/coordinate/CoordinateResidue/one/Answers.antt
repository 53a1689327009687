use Rattle.curve_p384.proofs.Forms.{prime_one}
use Rattle.curve_p384.proofs.coordinate.CoordinateResidue.one.Goals as goal

pub returns : goal.returns
returns c = prime_one
