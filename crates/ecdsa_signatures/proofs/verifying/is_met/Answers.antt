use Rattle.ecdsa_signatures.proofs.Verdicts.{compared, left_is, right_is}
use Rattle.ecdsa_signatures.proofs.verifying.is_met.Goals as goal

pub returns : goal.returns
returns g c =
    compared g.F.Residue.modulus _ _ _ _ c.is_same.result c.is_same.ensures
    (left_is g.F.Residue.modulus _ _ _ _ _ _ c.times-yy.ensures.product c.plus-two_x.ensures c.plus-three_x.ensures
    c.plus-left.ensures)
    (right_is g.F.Residue.modulus _ _ _ _ _ c.times-xx.ensures.product c.times-xxx.ensures.product c.plus-right.ensures)
