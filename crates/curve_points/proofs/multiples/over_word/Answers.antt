use Rattle.std.proofs.Common.{◌≡◌, ℕ, ◌+◌, ◌*◌, ◌^◌, ◌-◌, ◌/◌, ◌≤◌, suc, Bool, cond, nat_eq, bit_and, sym, ap, ◌∙◌}
use Rattle.std.proofs.Common.{arith}
use Rattle.curve_points.specs.Points.{Point, multiple}
use Rattle.curve_points.proofs.BitSteps.{begun, continued, ended}
use Rattle.curve_points.proofs.StandingSteps.{stands_at}
use Rattle.curve_points.proofs.MultipleSteps.{counted, next_point, next_multiple}
use Rattle.curve_points.proofs.multiples.over_word.Goals as goal

no_more : (n : ℕ) → n ≡ n + 0
no_more n = omega arith

one_more : (n i : ℕ) → suc (n + i) ≡ n + (i + 1)
one_more n i = omega arith

all_of : (n i : ℕ) → 64 ≤ i → i ≤ 64 → n + i ≡ n + 64
all_of n i h k = omega arith

stepped : (p : ℕ) (P : Point) (n m k i : ℕ) (bit : Bool) → 2 * m + cond bit 1 0 ≡ k
    → next_point p bit (multiple p P (n + i) m) P ≡ multiple p P (n + (i + 1)) k
stepped p P n m k i bit e =
    sym (next_multiple p P (n + i) m k bit (sym e)) ∙ ap (λ j. multiple p P j k) (one_more n i)

pub loop-i-init : goal.loop-i-init
loop-i-init g c n m P base held =
    stands_at g.F.Residue.modulus _ _ _ _ _ _
    (counted g.F.Residue.modulus P n (n + 0) m _ (no_more n) (begun c.args.word m c.ranges.word.fits)) held

pub loop-i-preserved : goal.loop-i-preserved
loop-i-preserved g c n m P base held =
    stands_at g.F.Residue.modulus _ _ _ _ _ _
    (stepped g.F.Residue.modulus P n (2 ^ c.loop-i.i * m + c.args.word / 2 ^ (64 - c.loop-i.i)) _ c.loop-i.i
    (nat_eq (bit_and (c.args.word / 2 ^ (63 - c.loop-i.i)) 1) 1)
    (continued c.args.word m c.loop-i.i c.loop-i-test.true))
    (c.advanced-now.ensures
    (multiple g.F.Residue.modulus P (n + c.loop-i.i) (2 ^ c.loop-i.i * m + c.args.word / 2 ^ (64 - c.loop-i.i))) P base
    (c.loop-i.invariant n m P base held))

pub returns : goal.returns
returns g c n m P base held =
    stands_at g.F.Residue.modulus _ _ _ _ _ _
    (counted g.F.Residue.modulus P (n + c.loop-i.i) (n + 64) _ _
    (all_of n c.loop-i.i c.loop-i-test.false c.loop-i.auto.i-end)
    (ended c.args.word m c.loop-i.i c.loop-i-test.false c.loop-i.auto.i-end))
    (c.loop-i.invariant n m P base held)
