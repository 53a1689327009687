use Rattle.std.proofs.Common.{sym}
use Rattle.curve_points.proofs.Congruence.{equal, chained}
use Rattle.curve_points.proofs.Units.{denied}
use Rattle.curve_points.proofs.SumSteps.{first_none, second_none, placed_sum, opposite_sum, same_sum}
use Rattle.curve_points.proofs.StandingSteps.{in_none, in_placed, at_point, stands_none, stands_placed}
use Rattle.curve_points.proofs.jacobian.added.Goals as goal

pub returns-then-a : goal.returns-then-a
returns-then-a g c P Q st su =
    c.widened.ensures _ su.apart st.apart
    (λ unit by. at_point g.F.Residue.modulus _ _ _ _ Q _
    (sym (first_none g.F.Residue.modulus P Q (in_none g.F.Residue.modulus _ _ _ _ P c.if-a.true (st.in_place by))))
    (su.in_place unit))

pub returns-then-b : goal.returns-then-b
returns-then-b g c P Q st su =
    c.widened-then-b.ensures _ st.apart su.apart
    (λ unit by. at_point g.F.Residue.modulus _ _ _ _ P _
    (sym (second_none g.F.Residue.modulus P Q (in_none g.F.Residue.modulus _ _ _ _ Q c.if-b.true (su.in_place by))))
    (st.in_place unit))

pub returns-then-not-is_zero : goal.returns-then-not-is_zero
returns-then-not-is_zero g c P Q st su =
    stands_placed g.F.Residue.modulus _ _ _ _ _ c.chord-apart.ensures.finite
    (denied c.is_zero.result c.is_zero.ensures c.if-not-is_zero.true)
    (placed_sum g.F.Residue.modulus _ _ _ _ _ _ _ _ _ c.chord-apart.ensures.z.0 g.met.F.Residue.large
    c.chord-apart.ensures.z.1.0 c.chord-apart.ensures.z.1.1 P Q c.chord-apart.ensures.point
    (λ unit. in_placed g.F.Residue.modulus _ _ _ _ P c.if-a.false (st.in_place unit))
    (λ unit. in_placed g.F.Residue.modulus _ _ _ _ Q c.if-b.false (su.in_place unit)))

pub returns-then-is_opposite_height : goal.returns-then-is_opposite_height
returns-then-is_opposite_height g c P Q st su =
    c.widened-then-is_opposite_height.ensures _
    (λ h. st.apart (chained (equal g.F.Residue.modulus _ _ (sym c.infinite-none.ensures.z)) h)) su.apart
    (λ unit by. (stands_none g.F.Residue.modulus _ _ _ _ _ _ c.infinite-none.ensures.infinite c.infinite-none.ensures.z
    st.apart
    (λ whole. opposite_sum g.F.Residue.modulus _ _ _ _ _ _
    (g.F.Residue.value c.chord-apart.result.x) (g.F.Residue.value c.chord-apart.result.y) _ c.chord-apart.ensures.z.0
    g.met.F.Residue.large c.chord-apart.ensures.z.1.0 c.chord-apart.ensures.z.1.1
    (c.is_zero.ensures.0 c.if-not-is_zero.false) whole by P Q
    (in_placed g.F.Residue.modulus _ _ _ _ P c.if-a.false (st.in_place whole))
    (in_placed g.F.Residue.modulus _ _ _ _ Q c.if-b.false (su.in_place by))
    (c.is_opposite_height.ensures.0 c.if-is_opposite_height.true))).in_place unit)

pub returns : goal.returns
returns g c P Q st su =
    let twice = c.doubled-twice.ensures.point P st in
    c.widened-2.ensures _ twice.apart su.apart
    (λ unit by. let whole = c.doubled-twice.ensures.divisors unit in
    at_point g.F.Residue.modulus _ _ _ _ _ _
    (sym (same_sum g.F.Residue.modulus _ _ _ _ _ _
    (g.F.Residue.value c.chord-apart.result.x) (g.F.Residue.value c.chord-apart.result.y) _ c.chord-apart.ensures.z.0
    g.met.F.Residue.large c.chord-apart.ensures.z.1.0 c.chord-apart.ensures.z.1.1
    (c.is_zero.ensures.0 c.if-not-is_zero.false) whole by P Q
    (in_placed g.F.Residue.modulus _ _ _ _ P c.if-a.false (st.in_place whole))
    (in_placed g.F.Residue.modulus _ _ _ _ Q c.if-b.false (su.in_place by))
    (denied c.is_opposite_height.result c.is_opposite_height.ensures c.if-is_opposite_height.false)))
    (twice.in_place unit))
