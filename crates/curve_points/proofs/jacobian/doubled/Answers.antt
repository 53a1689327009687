use Rattle.std.proofs.Common.{◌∙◌, subst}
use Rattle.curve_points.specs.Residues.{IsUnit}
use Rattle.curve_points.proofs.Units.{denied}
use Rattle.curve_points.proofs.SumSteps.{first_none, flat_double, placed_double, doubled_unit}
use Rattle.curve_points.proofs.StandingSteps.{in_none, in_placed, stands_none, stands_placed}
use Rattle.curve_points.proofs.jacobian.doubled.Goals as goal

pub returns-then-a : goal.returns-then-a
returns-then-a g c = record {
  point = λ P st.
      stands_none g.F.Residue.modulus _ _ _ _ _ _ c.infinite.ensures.infinite c.infinite.ensures.z st.apart
      (λ unit. let e = in_none g.F.Residue.modulus _ _ _ _ P c.if-a.true (st.in_place unit) in
      first_none g.F.Residue.modulus P P e ∙ e);
  divisors = λ unit. subst (λ n. IsUnit g.F.Residue.modulus n) c.infinite.ensures.z unit;
}

pub returns-then-is_zero : goal.returns-then-is_zero
returns-then-is_zero g c = record {
  point = λ P st.
      stands_none g.F.Residue.modulus _ _ _ _ _ _ c.infinite-then-is_zero.ensures.infinite
      c.infinite-then-is_zero.ensures.z st.apart
      (flat_double g.F.Residue.modulus _ _ _ _ _ _ g.met.F.Residue.large c.tangent-twice.ensures.z
      c.tangent-twice.ensures.point P (λ unit. in_placed g.F.Residue.modulus _ _ _ _ P c.if-a.false (st.in_place unit))
      (c.is_zero.ensures.0 c.if-is_zero.true));
  divisors = λ unit. subst (λ n. IsUnit g.F.Residue.modulus n) c.infinite-then-is_zero.ensures.z unit;
}

pub returns : goal.returns
returns g c = record {
  point = λ P st.
      stands_placed g.F.Residue.modulus _ _ _ _ _ c.tangent-twice.ensures.finite
      (denied c.is_zero.result c.is_zero.ensures c.if-is_zero.false)
      (placed_double g.F.Residue.modulus _ _ _ _ _ _ g.met.F.Residue.large c.tangent-twice.ensures.z
      c.tangent-twice.ensures.point P
      (λ unit. in_placed g.F.Residue.modulus _ _ _ _ P c.if-a.false (st.in_place unit)));
  divisors =
      doubled_unit g.F.Residue.modulus _ _ _ _ _ _ g.met.F.Residue.large c.tangent-twice.ensures.z
      c.tangent-twice.ensures.point;
}
