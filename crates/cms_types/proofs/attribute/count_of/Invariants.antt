use Rattle.std.proofs.Common.{◌≡◌, ◌+◌, ◌≤◌, length}
use Rattle.der_core.specs.Reading.{within}
use Rattle.der_lists.specs.Items.{all_in, IsList}
use Rattle.cms_types.specs.AttributeReading.{attribute_in}
use Rattle.cms_types.proofs.attribute.count_of.Given as goal

-- the attributes counted so far and those that are left are all the attributes, and no more than there are octets
abbrev pub invariant-loop-parts : goal.invariant-loop-parts
invariant-loop-parts l = record {
  list : IsList (within 0x30 attribute_in) l.left;
  counted : l.count + length (all_in (within 0x30 attribute_in) l.left)
      ≡ length (all_in (within 0x30 attribute_in) l.fn.list);
  room : l.count + length l.left.rest ≤ l.most;
}

abbrev pub decreases-loop-parts : goal.decreases-loop-parts
decreases-loop-parts l = length l.left.rest
