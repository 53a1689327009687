use Rattle.std.proofs.Common.{◌≡◌, length}
use Rattle.der_core.specs.Lists.{some}
use Rattle.cms_types.specs.OfType.{has_type}
use Rattle.cms_types.proofs.attributes.Attributes.has.Given as goal

-- one of the attributes that are left has the type exactly when one of all does
abbrev pub invariant-loop-parts : goal.invariant-loop-parts
invariant-loop-parts l = some (has_type l.fn.id) l.left ≡ some (has_type l.fn.id) l.fn.self

abbrev pub decreases-loop-parts : goal.decreases-loop-parts
decreases-loop-parts l = length l.left
