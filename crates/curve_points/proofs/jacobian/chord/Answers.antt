use Rattle.curve_points.proofs.Chord.{added_is, made_h, made_z}
use Rattle.curve_points.proofs.jacobian.chord.Goals as goal

pub returns-clause-z : goal.returns-clause-z
returns-clause-z g c = (
  g.F.Residue.value c.minus-h.result,
  (
    made_h g.F.Residue.modulus _ _ _ _ _ _ _ _ _ _ _ _ _ _ _ _ _ _ _ _ _ _ _ _ _ _ _ _ _
        c.times-zz.ensures.product c.times-cc.ensures.product c.times-u1.ensures.product c.times-u2.ensures.product
        c.times-zzz.ensures.product c.times-ccc.ensures.product c.times-s1.ensures.product c.times-s2.ensures.product
        c.minus-h.ensures c.minus-r.ensures c.times-hh.ensures.product c.times-hhh.ensures.product
        c.times-t.ensures.product c.times-rr.ensures.product c.plus-two_t.ensures c.minus-part.ensures c.minus-x.ensures
        c.minus-gap.ensures c.times-turn.ensures.product c.times-fall.ensures.product c.minus-y.ensures
        c.times-zc.ensures.product c.times-z.ensures.product,
    made_z g.F.Residue.modulus _ _ _ _ _ _ _ _ _ _ _ _ _ _ _ _ _ _ _ _ _ _ _ _ _ _ _ _ _
        c.times-zz.ensures.product c.times-cc.ensures.product c.times-u1.ensures.product c.times-u2.ensures.product
        c.times-zzz.ensures.product c.times-ccc.ensures.product c.times-s1.ensures.product c.times-s2.ensures.product
        c.minus-h.ensures c.minus-r.ensures c.times-hh.ensures.product c.times-hhh.ensures.product
        c.times-t.ensures.product c.times-rr.ensures.product c.plus-two_t.ensures c.minus-part.ensures c.minus-x.ensures
        c.minus-gap.ensures c.times-turn.ensures.product c.times-fall.ensures.product c.minus-y.ensures
        c.times-zc.ensures.product c.times-z.ensures.product,
  ),
)

pub returns-clause-point : goal.returns-clause-point
returns-clause-point g c x y s t l u v d old other apart slope third =
    added_is g.F.Residue.modulus _ _ _ _ _ _ _ _ _ _ _ _ _ _ _ _ _ _ _ _ _ _ _ _ _ _ _ _ _
    c.times-zz.ensures.product c.times-cc.ensures.product c.times-u1.ensures.product c.times-u2.ensures.product
    c.times-zzz.ensures.product c.times-ccc.ensures.product c.times-s1.ensures.product c.times-s2.ensures.product
    c.minus-h.ensures c.minus-r.ensures c.times-hh.ensures.product c.times-hhh.ensures.product
    c.times-t.ensures.product c.times-rr.ensures.product c.plus-two_t.ensures c.minus-part.ensures c.minus-x.ensures
    c.minus-gap.ensures c.times-turn.ensures.product c.times-fall.ensures.product c.minus-y.ensures
    c.times-zc.ensures.product c.times-z.ensures.product
    x y s t l u v d old other apart slope third
