use Rattle.curve_points.proofs.StandingSteps.{first_placed}
use Rattle.curve_points.proofs.jacobian.at.Goals as goal

pub returns : goal.returns
returns g c =
    first_placed g.F.Residue.modulus _ _ _ g.met.F.Residue.large c.requires.x_reduced c.requires.y_reduced c.one.ensures
