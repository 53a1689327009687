use Rattle.curve_points.proofs.PowerSteps.{squared, squared_once_more, bit_set, bit_not_set}
use Rattle.curve_points.proofs.powers.raised.Goals as goal

pub returns-then-bit : goal.returns-then-bit
returns-then-bit g c m held =
    bit_set g.R.Residue.modulus (g.R.Residue.value c.args.base.now) m _ c.args.bit c.if-bit.true
    (squared_once_more g.R.Residue.modulus _ m _ _ _ c.times-square.ensures.product c.times.ensures.product held)

pub returns-else-bit : goal.returns-else-bit
returns-else-bit g c m held =
    bit_not_set g.R.Residue.modulus (g.R.Residue.value c.args.base.now) m _ c.args.bit c.if-bit.false
    (squared g.R.Residue.modulus (g.R.Residue.value c.args.base.now) m _ _ c.times-square.ensures.product held)
