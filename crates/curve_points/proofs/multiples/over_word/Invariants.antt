use Rattle.std.proofs.Common.{ℕ, ◌+◌, ◌*◌, ◌^◌, ◌-◌, ◌/◌}
use Rattle.curve_points.specs.Points.{Point, multiple}
use Rattle.curve_points.specs.Standing.{StandsFor}
use Rattle.curve_points.proofs.multiples.over_word.Given as goal

abbrev pub invariant-loop-i : goal.invariant-loop-i
invariant-loop-i g l =
    (n m : ℕ) (P : Point) → StandsFor g.F.Residue.modulus g.F.Residue.value l.base P
    → StandsFor g.F.Residue.modulus g.F.Residue.value l.initial.now (multiple g.F.Residue.modulus P n m)
    → StandsFor g.F.Residue.modulus g.F.Residue.value l.now
    (multiple g.F.Residue.modulus P (n + l.i) (2 ^ l.i * m + l.word / 2 ^ (64 - l.i)))
