use Rattle.std.proofs.Common.{◌≡◌, [], Option, Some, None}
use Rattle.std.specs.Prelude.{MatchOption, IfSome}
use Rattle.der_core.specs.Element.{IsBytes}
use Rattle.der_core.specs.Reading.{Spot, within}
use Rattle.der_lists.specs.Items.{all_in, IsList}
use Rattle.cms_types.specs.AttributeReading.{attribute_in}
use Rattle.cms_types.specs.Entering.{EntersFront}
use Rattle.cms_types.specs.OfType.{EntersFirst}
use Rattle.cms_types.proofs.Entering.{none_at_front, first_at_front}
use Rattle.cms_types.proofs.attribute.enter_first.Goals as goal

-- what is at the front of attributes that were read before
front_of : (s : Spot) (r : Option (Spot × Spot)) → IsBytes s.rest → EntersFront s r
    → IsList (within 0x30 attribute_in) s
    → MatchOption r (all_in (within 0x30 attribute_in) s ≡ [])
    (λ x. EntersFirst (all_in (within 0x30 attribute_in) s) x.0 (all_in (within 0x30 attribute_in) x.1))
    × IfSome r (λ x. IsList (within 0x30 attribute_in) x.1)
front_of s None fits e h = (none_at_front attribute_in s fits e h, tt)
front_of s (Some x) fits e h =
    let first = first_at_front attribute_in s x fits e h in ((first.value, first.items, first.read), first.list)

pub returns-clause-front : goal.returns-clause-front
returns-clause-front c = λ is_list.
    (front_of c.args.list.now c.enter_front.result c.enter_front.ensures.octets c.enter_front.ensures.front is_list).0

pub returns-clause-list : goal.returns-clause-list
returns-clause-list c = λ is_list.
    (front_of c.args.list.now c.enter_front.result c.enter_front.ensures.octets c.enter_front.ensures.front is_list).1
