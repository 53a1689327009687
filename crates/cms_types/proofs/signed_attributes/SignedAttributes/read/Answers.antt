use Rattle.cms_types.proofs.AttributeReaders.{signed_stands, tail_there}
use Rattle.cms_types.proofs.signed_attributes.SignedAttributes.read.Goals as goal

pub invariant_of-result : goal.invariant_of-result
invariant_of-result g c =
    tail_there c.in_ok-element.element.whole.now c.split_at.result.1.now c.in_ok-element.inside.rest c.in_ok-list.list
    c.in_ok-element.ensures.whole c.split_at.ensures.back
    (signed_stands c.in_ok-element.inside c.in_ok-list.list c.in_ok-element.ensures.found.fits c.in_ok-list.ensures)
