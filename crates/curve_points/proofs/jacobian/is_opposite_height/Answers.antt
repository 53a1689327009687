use Rattle.curve_points.proofs.Congruence.{turned, chained, summed}
use Rattle.curve_points.proofs.StandingSteps.{height_is}
use Rattle.curve_points.proofs.jacobian.is_opposite_height.Goals as goal

pub returns : goal.returns
returns g c =
    let p = g.F.Residue.modulus in
    let left = height_is p _ _ _ _ _ c.times-cc.ensures.product c.times-ccc.ensures.product
    c.times-left.ensures.product in
    let right = height_is p _ _ _ _ _ c.times-zz.ensures.product c.times-zzz.ensures.product
    c.times-right.ensures.product in
    let both = chained c.plus-both.ensures (summed left right) in
    ((λ h. chained (turned both) (c.is_zero.ensures.0 h)), (λ k. c.is_zero.ensures.1 (chained both k)))
