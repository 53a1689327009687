use Rattle.std.proofs.Common.{length, ◌&&◌, ap, ◌∙◌}
use Rattle.der_core.specs.Lists.{is_same}
use Rattle.check_fit.proofs.Comparing.{element_short, element_parts, small_enough}
use Rattle.check_fit.proofs.element_octets.is_element_of.Goals as goal

pub returns-then-element-front : goal.returns-then-element-front
returns-then-element-front c =
    element_short c.args.tag c.args.contents.now c.args.element.now c.bytes-front.result.now
    (c.bytes-front.ensures.octets ∙ c.in-Ok.ensures.gives)
    (small_enough (length c.args.contents.now) c.in-Ok.ensures.too_long.1) c.if-element-front.true

pub returns-then-is_same : goal.returns-then-is_same
returns-then-is_same c =
    rw (c.is_same-then-is_same.ensures)
    (ap (λ p. p && is_same c.split_at.result.1.now c.args.contents.now) c.if-is_same.ensures
    ∙ element_parts c.args.tag c.args.contents.now c.args.element.now c.bytes-front.result.now c.split_at.result.0.now
    c.split_at.result.1.now
    (c.bytes-front.ensures.octets ∙ c.in-Ok.ensures.gives)
    (small_enough (length c.args.contents.now) c.in-Ok.ensures.too_long.1)
    c.if-element-front.false c.split_at.ensures.front c.split_at.ensures.back)

pub returns-else-is_same : goal.returns-else-is_same
returns-else-is_same c =
    rw (c.if-is_same.false) (ap (λ p. p && is_same c.split_at.result.1.now c.args.contents.now) c.if-is_same.ensures
    ∙ element_parts c.args.tag c.args.contents.now c.args.element.now c.bytes-front.result.now c.split_at.result.0.now
    c.split_at.result.1.now
    (c.bytes-front.ensures.octets ∙ c.in-Ok.ensures.gives)
    (small_enough (length c.args.contents.now) c.in-Ok.ensures.too_long.1)
    c.if-element-front.false c.split_at.ensures.front c.split_at.ensures.back)
