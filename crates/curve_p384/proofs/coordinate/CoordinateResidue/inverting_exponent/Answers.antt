use Rattle.std.proofs.Common.{refl}
use Rattle.curve_points.specs.Words.{number}
use Rattle.curve_p384.proofs.coordinate.CoordinateResidue.inverting_exponent.Goals as goal

pub returns : goal.returns
unfolding number
returns c = refl
