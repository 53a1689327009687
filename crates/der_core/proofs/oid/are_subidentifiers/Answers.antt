use Rattle.std.proofs.Common.{◌∙◌, sym, refl, arith}
use Rattle.der_core.proofs.Subidentifiers.{front_passed, last_of_body}
use Rattle.der_core.proofs.oid.are_subidentifiers.Goals as goal

pub loop-left-preserved : goal.loop-left-preserved
loop-left-preserved c = rw c.split_at.ensures.back
    (sym (front_passed 7 c.loop-left.begins c.loop-left.left.now (omega arith) (c.if-eight_without.ensures refl))
    ∙ c.loop-left.invariant)

pub returns-in-len1-up : goal.returns-in-len1-up
returns-in-len1-up c =
    last_of_body c.loop-left.begins c.loop-left.left.now (omega arith) (c.if-few_without.ensures refl)
    ∙ c.loop-left.invariant
