use Rattle.std.proofs.Common.{refl}
use Rattle.curve_points.specs.Words.{number}
use Rattle.curve_p256.proofs.curve.P256Curve4.zero.Goals as goal

pub returns : goal.returns
unfolding number
returns c = refl
