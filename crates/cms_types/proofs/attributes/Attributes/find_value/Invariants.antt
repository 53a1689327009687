use Rattle.std.proofs.Common.{length}
use Rattle.cms_types.proofs.OfType.{Passes}
use Rattle.cms_types.proofs.attributes.Attributes.find_value.Given as goal

-- the attributes that were passed over have another type
abbrev pub invariant-loop-parts : goal.invariant-loop-parts
invariant-loop-parts l = Passes l.fn.id l.fn.self l.left

abbrev pub decreases-loop-parts : goal.decreases-loop-parts
decreases-loop-parts l = length l.left
