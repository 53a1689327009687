use Rattle.std.proofs.Common.{◌*◌, ◌-◌, length, drop}
use Rattle.curve_points.specs.Words.{number}
use Rattle.curve_points.specs.Points.{Point, multiple}
use Rattle.curve_points.specs.Standing.{StandsFor}
use Rattle.curve_points.proofs.multiples.multiple.Given as goal

abbrev pub invariant-loop-i : goal.invariant-loop-i
invariant-loop-i g l =
    (P : Point) → StandsFor g.F.Residue.modulus g.F.Residue.value l.base P
    → StandsFor g.F.Residue.modulus g.F.Residue.value l.now
    (multiple g.F.Residue.modulus P (64 * l.i) (number (drop (length l.words - l.i) l.words)))
