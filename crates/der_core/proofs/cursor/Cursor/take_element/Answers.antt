use Rattle.std.proofs.Common.{arith}
use Rattle.der_core.proofs.Elements.{length_bytes}
use Rattle.der_core.proofs.cursor.Cursor.take_element.Goals as goal

pub invariant_of-self : goal.invariant_of-self
invariant_of-self c = (
  omega (arith, c.in_ok-len-in-len1-up.ensures.shorter),
  rw c.split_at.ensures.back
      (length_bytes _ _ _ c.self.inside.rest.now _ _ c.self.invariant.1 c.in_ok-len-in-len1-up.ensures.gives),
)
