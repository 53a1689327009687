use Rattle.curve_points.proofs.Units.{denied, tried_is, witness_is}
use Rattle.curve_points.proofs.powers.inverse.Goals as goal

pub returns-then-is_same-clause-found : goal.returns-then-is_same-clause-found
returns-then-is_same-clause-found g c =
    tried_is g.R.Residue.modulus _ _ _ _ c.times-product.ensures.product c.one.ensures
    (c.is_same.ensures.0 c.if-is_same.true)

pub returns-else-is_same-clause-none : goal.returns-else-is_same-clause-none
returns-else-is_same-clause-none g c e not_none =
    witness_is g.R.Residue.modulus _ _ _ _ _ g.met.R.Residue.large c.inverting_exponent.ensures c.power-inverse.ensures
    c.times-product.ensures.product c.one.ensures
    (denied c.is_same.result c.is_same.ensures c.if-is_same.false) not_none
