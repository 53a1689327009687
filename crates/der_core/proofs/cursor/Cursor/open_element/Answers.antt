use Rattle.std.proofs.Common.{arith, length, length-append, ap}
use Rattle.der_core.specs.Element.{len}
use Rattle.der_core.specs.Reading.{Spot}
use Rattle.der_core.proofs.cursor.Cursor.open_element.Goals as goal

pub invariant_of-result : goal.invariant_of-result
invariant_of-result c =
    let k = c.in_ok-element.ensures.found.1 in
    let at = ap (λ (s : Spot). s.pos) c.self.view_is in
    let body = c.in_ok-element.element.body.now in
    (omega (arith, at, k.moved, length-append (len (length body)) body, c.self.invariant.0), k.octets)
