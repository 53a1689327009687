use Rattle.std.proofs.Common.{◌-◌, length, drop, sym, ap, refl, arith}
use Rattle.std.proofs.Math.Nat.{pow-zero}
use Rattle.curve_points.specs.Words.{number}
use Rattle.curve_points.proofs.Congruence.{equal, chained}
use Rattle.curve_points.proofs.MultipleSteps.{no_words, next_number, all_words}
use Rattle.curve_points.proofs.PowerSteps.{at_exponent}
use Rattle.curve_points.proofs.powers.power.Goals as goal

pub loop-i-init : goal.loop-i-init
loop-i-init g c =
    at_exponent g.R.Residue.modulus (g.R.Residue.value c.args.base.now) _ 0 _
    (sym (no_words c.args.exponent.now (length c.args.exponent.now - 0) (omega arith)))
    (chained c.one-now.ensures (equal g.R.Residue.modulus 1 _ (sym (pow-zero (g.R.Residue.value c.args.base.now)))))

pub loop-i-preserved : goal.loop-i-preserved
loop-i-preserved g c =
    at_exponent g.R.Residue.modulus (g.R.Residue.value c.args.base.now) _ _ _
    (next_number c.args.exponent.now c.loop-i.i
    (length c.args.exponent.now - 1 - c.loop-i.i) _ c.loop-i-test.true refl refl)
    (c.raised_by_word-now.ensures (number (drop (length c.args.exponent.now - c.loop-i.i) c.args.exponent.now))
    c.loop-i.invariant)

pub returns : goal.returns
returns g c =
    at_exponent g.R.Residue.modulus (g.R.Residue.value c.args.base.now) _ _ _
    (ap number (all_words c.args.exponent.now c.loop-i.i c.loop-i-test.false)) c.loop-i.invariant
