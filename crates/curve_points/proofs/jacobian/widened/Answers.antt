use Rattle.curve_points.proofs.Units.{denied}
use Rattle.curve_points.proofs.StandingSteps.{not_widened, widened_stands}
use Rattle.curve_points.proofs.jacobian.widened.Goals as goal

pub returns-then-is_zero : goal.returns-then-is_zero
returns-then-is_zero g c P not_z not_by held =
    not_widened g.F.Residue.modulus _ _ _ _ _ c.args.a.now.is_infinite P not_z not_by held c.times-z.ensures.product
    _ _ _ _ (c.is_zero.ensures.0 c.if-is_zero.true) c.again.ensures.z

pub returns : goal.returns
returns g c P not_z not_by held =
    widened_stands g.F.Residue.modulus _ _ _ _ _ c.args.a.now.is_infinite P not_z not_by held c.times-z.ensures.product
    _ _ _ _ c.times-square.ensures.product c.times-cube.ensures.product c.times.ensures.product
    c.times-2.ensures.product
    (denied c.is_zero.result c.is_zero.ensures c.if-is_zero.false)
