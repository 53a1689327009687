use Rattle.std.proofs.Common.{◌+◌, ◌*◌, ◌-◌, ◌/◌, ◌^◌}
use Rattle.curve_points.proofs.BitSteps.{begun, continued, ended}
use Rattle.curve_points.proofs.PowerSteps.{at_exponent}
use Rattle.curve_points.proofs.powers.raised_by_word.Goals as goal

pub loop-i-init : goal.loop-i-init
loop-i-init g c m held =
    at_exponent g.R.Residue.modulus (g.R.Residue.value c.args.base.now) _ m _
    (begun c.args.word m c.ranges.word.fits) held

pub loop-i-preserved : goal.loop-i-preserved
loop-i-preserved g c m held =
    at_exponent g.R.Residue.modulus (g.R.Residue.value c.args.base.now) _ _ _
    (continued c.args.word m c.loop-i.i c.loop-i-test.true)
    (c.raised-now.ensures (2 ^ c.loop-i.i * m + c.args.word / 2 ^ (64 - c.loop-i.i)) (c.loop-i.invariant m held))

pub returns : goal.returns
returns g c m held =
    at_exponent g.R.Residue.modulus (g.R.Residue.value c.args.base.now) _ _ _
    (ended c.args.word m c.loop-i.i c.loop-i-test.false c.loop-i.auto.i-end) (c.loop-i.invariant m held)
