use Rattle.std.proofs.Common.{refl, []}
use Rattle.der_core.specs.Reading.{spot}
use Rattle.der_lists.specs.Items.{opaque_item}
use Rattle.der_lists.specs.Shorter.{opaque_shorter}
use Rattle.der_lists.proofs.Items.{many_end}
use Rattle.der_lists.proofs.opaques.Opaques.empty.Goals as goal

pub invariant_of-result : goal.invariant_of-result
invariant_of-result c = rw (c.new.ensures, many_end opaque_item opaque_shorter (spot 0 []) refl) (refl, refl)

pub returns : goal.returns
returns c = rw (c.new.ensures, many_end opaque_item opaque_shorter (spot 0 []) refl) refl
