use Rattle.std.proofs.Common.{◌≡◌, length}
use Rattle.der_core.specs.Lists.{some}
use Rattle.der_core.specs.Element.{has_tag}
use Rattle.cms_types.proofs.versions.is_one_tagged.Given as goal

-- one of the elements that are left has the tag exactly when one of all does
abbrev pub invariant-loop-element : goal.invariant-loop-element
invariant-loop-element l = some (has_tag l.tag) l.left ≡ some (has_tag l.tag) l.elements

abbrev pub decreases-loop-element : goal.decreases-loop-element
decreases-loop-element l = length l.left
