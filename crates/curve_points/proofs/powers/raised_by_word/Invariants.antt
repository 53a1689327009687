use Rattle.std.proofs.Common.{ℕ, ◌+◌, ◌*◌, ◌-◌, ◌/◌, ◌^◌}
use Rattle.curve_points.specs.Residues.{Congruent}
use Rattle.curve_points.proofs.powers.raised_by_word.Given as goal

abbrev pub invariant-loop-i : goal.invariant-loop-i
invariant-loop-i g l =
    (m : ℕ) → Congruent g.R.Residue.modulus (g.R.Residue.value l.initial.now) (g.R.Residue.value l.base ^ m)
    → Congruent g.R.Residue.modulus (g.R.Residue.value l.now)
    (g.R.Residue.value l.base ^ (2 ^ l.i * m + l.word / 2 ^ (64 - l.i)))
