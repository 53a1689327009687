-- Reading attributes from the left.
use Rattle.std.specs.Prelude.{ℕ, List, Result}
use Rattle.der_core.specs.declared.fault.Fault.{Fault}
use Rattle.der_core.specs.Reading.{Spot, within, ◌then◌, whole_of, made, oid_in, many_in}
use Rattle.der_lists.specs.Items.{opaque_item, opaque_front, front_at}
use Rattle.der_lists.specs.Checked.{ordered_in}
use Rattle.cms_types.specs.AttributeValue.{AttributeValue}

abbrev pub attribute_from : List ℕ × List (List ℕ) → AttributeValue
attribute_from p = record { id = p.0; values = p.1 }

-- the values of a SET OF in any order, and in ascending order
abbrev pub values_in : Spot → Result (List (List ℕ)) Fault
values_in s = many_in opaque_item s

abbrev pub ordered_values_in : Spot → Result (List (List ℕ)) Fault
ordered_values_in s = ordered_in opaque_front opaque_item s

unfoldable pub attribute_in : Spot → Result AttributeValue Fault
attribute_in s = made attribute_from (whole_of (within 0x06 oid_in then within 0x31 values_in)) s

unfoldable pub signed_attribute_in : Spot → Result AttributeValue Fault
signed_attribute_in s = made attribute_from (whole_of (within 0x06 oid_in then within 0x31 ordered_values_in)) s

-- attributes in any order, and in ascending order
abbrev pub attributes_in : Spot → Result (List AttributeValue) Fault
attributes_in s = many_in (within 0x30 attribute_in) s

abbrev pub signed_attributes_in : Spot → Result (List AttributeValue) Fault
signed_attributes_in s = ordered_in (front_at 0x30) (within 0x30 signed_attribute_in) s
