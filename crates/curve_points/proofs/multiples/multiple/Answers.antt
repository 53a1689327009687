use Rattle.std.proofs.Common.{◌≡◌, ℕ, ◌+◌, ◌*◌, ◌-◌, ◌≤◌, length, drop, ap, refl, arith}
use Rattle.curve_points.specs.Words.{number}
use Rattle.curve_points.proofs.Congruence.{chained, turned}
use Rattle.curve_points.proofs.Units.{apart}
use Rattle.curve_points.proofs.StandingSteps.{stands_at, stands_none}
use Rattle.curve_points.proofs.MultipleSteps.{counted, no_multiple, next_number, all_words}
use Rattle.curve_points.proofs.multiples.multiple.Goals as goal

word_more : (i : ℕ) → 64 * i + 64 ≡ 64 * (i + 1)
word_more i = omega arith

all_of : (i n : ℕ) → n ≤ i → i ≤ n → 64 * i ≡ 64 * n
all_of i n h k = omega arith

pub loop-i-init : goal.loop-i-init
loop-i-init g c P base =
    stands_none g.F.Residue.modulus _ _ (g.F.Residue.value c.one.result) _ _ _ c.infinite-now.ensures.infinite
    c.infinite-now.ensures.z (λ h. apart g.F.Residue.modulus g.met.F.Residue.large (chained (turned h) c.one.ensures))
    (λ unit. no_multiple g.F.Residue.modulus P _)

pub loop-i-preserved : goal.loop-i-preserved
loop-i-preserved g c P base =
    stands_at g.F.Residue.modulus _ _ _ _ _ _
    (counted g.F.Residue.modulus P _ _ _ _ (word_more c.loop-i.i)
    (next_number c.args.words.now c.loop-i.i (length c.args.words.now - 1 - c.loop-i.i) _ c.loop-i-test.true refl refl))
    (c.over_word-now.ensures (64 * c.loop-i.i)
    (number (drop (length c.args.words.now - c.loop-i.i) c.args.words.now)) P base
    (c.loop-i.invariant P base))

pub returns : goal.returns
returns g c P base =
    stands_at g.F.Residue.modulus _ _ _ _ _ _
    (counted g.F.Residue.modulus P _ _ _ _
    (all_of c.loop-i.i (length c.args.words.now) c.loop-i-test.false c.loop-i.auto.i-end)
    (ap number (all_words c.args.words.now c.loop-i.i c.loop-i-test.false)))
    (c.loop-i.invariant P base)
