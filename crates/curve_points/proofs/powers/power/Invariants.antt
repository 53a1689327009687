use Rattle.std.proofs.Common.{◌-◌, ◌^◌, length, drop}
use Rattle.curve_points.specs.Residues.{Congruent}
use Rattle.curve_points.specs.Words.{number}
use Rattle.curve_points.proofs.powers.power.Given as goal

abbrev pub invariant-loop-i : goal.invariant-loop-i
invariant-loop-i g l =
    Congruent g.R.Residue.modulus (g.R.Residue.value l.now)
    (g.R.Residue.value l.base ^ number (drop (length l.exponent - l.i) l.exponent))
