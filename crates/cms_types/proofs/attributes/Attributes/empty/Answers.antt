use Rattle.std.proofs.Common.{refl, []}
use Rattle.der_core.specs.Reading.{spot, within}
use Rattle.der_lists.specs.Shorter.{within_shorter}
use Rattle.der_lists.proofs.Items.{many_end}
use Rattle.cms_types.specs.AttributeReading.{attribute_in}
use Rattle.cms_types.proofs.attributes.Attributes.empty.Goals as goal

pub invariant_of-result : goal.invariant_of-result
invariant_of-result c =
    rw (c.new.ensures, many_end (within 0x30 attribute_in) (within_shorter 0x30 attribute_in) (spot 0 []) refl)
    (refl, refl)

pub returns : goal.returns
returns c =
    rw (c.new.ensures, many_end (within 0x30 attribute_in) (within_shorter 0x30 attribute_in) (spot 0 []) refl) refl
