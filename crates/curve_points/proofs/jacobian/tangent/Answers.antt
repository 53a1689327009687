use Rattle.curve_points.proofs.Tangent.{doubled_is, made_z}
use Rattle.curve_points.proofs.jacobian.tangent.Goals as goal

pub returns-clause-z : goal.returns-clause-z
returns-clause-z g c =
    made_z g.F.Residue.modulus _ _ _ _ _ _ _ _ _ _ _ _ _ _ _ _ _ _ _ _ _ _ _ _ _
    c.times-zz.ensures.product c.times-yy.ensures.product c.times-xyy.ensures.product c.plus-two_xyy.ensures
    c.plus-s.ensures c.minus-low.ensures c.plus-high.ensures c.times-product.ensures.product
    c.plus-two_products.ensures c.plus-m.ensures c.times-mm.ensures.product c.plus-ss.ensures c.minus-x.ensures
    c.minus-gap.ensures c.times-turn.ensures.product c.times-y4.ensures.product c.plus-two_y4.ensures
    c.plus-four_y4.ensures c.plus-eight_y4.ensures c.minus-y.ensures c.times-yz.ensures.product c.plus-z.ensures

pub returns-clause-point : goal.returns-clause-point
returns-clause-point g c x y l u v old slope third =
    doubled_is g.F.Residue.modulus _ _ _ _ _ _ _ _ _ _ _ _ _ _ _ _ _ _ _ _ _ _ _ _ _
    c.times-zz.ensures.product c.times-yy.ensures.product c.times-xyy.ensures.product c.plus-two_xyy.ensures
    c.plus-s.ensures c.minus-low.ensures c.plus-high.ensures c.times-product.ensures.product
    c.plus-two_products.ensures c.plus-m.ensures c.times-mm.ensures.product c.plus-ss.ensures c.minus-x.ensures
    c.minus-gap.ensures c.times-turn.ensures.product c.times-y4.ensures.product c.plus-two_y4.ensures
    c.plus-four_y4.ensures c.plus-eight_y4.ensures c.minus-y.ensures c.times-yz.ensures.product c.plus-z.ensures
    x y l u v old slope third
