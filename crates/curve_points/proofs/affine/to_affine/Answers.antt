use Rattle.curve_points.specs.Residues.{IsUnit}
use Rattle.curve_points.proofs.StandingSteps.{in_placed, affine_is}
use Rattle.curve_points.proofs.affine.to_affine.Goals as goal

pub returns-clause-found : goal.returns-clause-found
returns-clause-found g c P st =
    let unit : IsUnit g.F.Residue.modulus (g.F.Residue.value c.args.a.now.z) =
    record { cofactor = g.F.Residue.value c.in_ok-inverse.inverse; is_inverse = c.in_ok-inverse.ensures.found } in
    affine_is g.F.Residue.modulus _ _ _ _ _ _ _ _ P c.times.ensures.reduced c.times-2.ensures.reduced
    c.in_ok-inverse.ensures.found c.times-square.ensures.product c.times-cube.ensures.product
    c.times.ensures.product c.times-2.ensures.product
    (in_placed g.F.Residue.modulus _ _ _ _ P c.if-a.false (st.in_place unit))
