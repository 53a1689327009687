-- Attributes that may be absent, in an element of any identifier.
use Rattle.std.proofs.Common.{◌≡◌, ◌≢◌, ℕ, true, List, [], map, Option, Some, None, refl, ap}
use Rattle.std.specs.Prelude.{IfSome}
use Rattle.std.specs.List.{AllByRecursion}
use Rattle.der_core.specs.Element.{is_tag}
use Rattle.der_core.specs.Form.{filled}
use Rattle.der_core.specs.Grammar.{opt, list, ordered}
use Rattle.der_core.specs.Reading.{maybe_filled}
use Rattle.der_core.proofs.Readers.{IsReader, Anything}
use Rattle.der_core.proofs.PartReaders.{Not, alike_reader}
use Rattle.der_core.proofs.FilledReaders.{GoodFilled, enc_filled, maybe_filled_reader}
use Rattle.der_grammar.specs.Table.{signed_attribute, unsigned_attribute}
use Rattle.der_lists.specs.Ranks.{Ascending}
use Rattle.cms_types.specs.AttributeValue.{AttributeValue, attribute_parts, attribute_element, attributes_parts}
use Rattle.cms_types.specs.AttributeValue.{GoodAttribute, GoodSignedAttribute, GoodSignedAttributes}
use Rattle.cms_types.specs.AttributeValue.{GoodUnsignedAttributes, optional_attributes}
use Rattle.cms_types.specs.AttributeReading.{attributes_in, signed_attributes_in}
use Rattle.cms_types.proofs.AttributeReaders.{attributes_body, signed_attributes_body}
use Rattle.evidence_types.proofs.FilledLists.{some_octets}

some_attributes : (xs : List AttributeValue) → (attributes_parts xs ≡ [] → ⊥) → xs ≢ []
some_attributes xs some e = some (ap attributes_parts e)

abbrev EachSigned : List AttributeValue → Type 0
EachSigned xs = AllByRecursion GoodSignedAttribute xs × Ascending (map attribute_element xs)

module _ (tag : ℕ) (id : is_tag tag ≡ true) where
  -- ---- in ascending order

  abbrev InSet : Option (List AttributeValue) → Type 0
  InSet o = GoodFilled tag id signed_attributes_in attributes_parts EachSigned
      (ordered 0x30 signed_attribute) signed_attributes_body refl o

  same_set : (o : Option (List AttributeValue))
      → enc_filled tag id signed_attributes_in attributes_parts EachSigned (ordered 0x30
      signed_attribute) signed_attributes_body refl o ≡ optional_attributes tag o
  same_set None = refl
  same_set (Some xs) = refl

  set_to : (o : Option (List AttributeValue)) → InSet o → IfSome o GoodSignedAttributes
  set_to None h = tt
  set_to (Some xs) h = record { each = h.0.0.0; ascending = h.0.0.1; some = some_attributes xs h.1; size = h.0.1 }

  set_from : (o : Option (List AttributeValue)) → IfSome o GoodSignedAttributes → InSet o
  set_from None h = tt
  set_from (Some xs) h = (((h.each, h.ascending), h.size), some_octets 48 attribute_parts xs h.some)

  pub set_reader :
      IsReader (maybe_filled tag signed_attributes_in) (optional_attributes tag) (λ o. IfSome o GoodSignedAttributes)
      (λ after. opt tag (filled (ordered 0x30 signed_attribute)) after) (Not tag) Anything
  set_reader = alike_reader _ (optional_attributes tag) InSet
      (λ o. IfSome o GoodSignedAttributes) same_set set_to set_from
      (maybe_filled tag signed_attributes_in) (λ after. opt tag (filled (ordered 0x30 signed_attribute)) after)
      (Not tag) (Not tag) Anything (λ r l. l)
      (maybe_filled_reader tag id signed_attributes_in attributes_parts EachSigned
      (ordered 0x30 signed_attribute) signed_attributes_body refl)

  -- ---- in any order

  abbrev InList : Option (List AttributeValue) → Type 0
  InList o = GoodFilled tag id attributes_in attributes_parts (AllByRecursion GoodAttribute)
      (list 0x30 unsigned_attribute) attributes_body refl o

  same_list : (o : Option (List AttributeValue))
      → enc_filled tag id attributes_in attributes_parts (AllByRecursion GoodAttribute) (list 0x30
      unsigned_attribute) attributes_body refl o ≡ optional_attributes tag o
  same_list None = refl
  same_list (Some xs) = refl

  list_to : (o : Option (List AttributeValue)) → InList o → IfSome o GoodUnsignedAttributes
  list_to None h = tt
  list_to (Some xs) h = record { each = h.0.0; some = some_attributes xs h.1; size = h.0.1 }

  list_from : (o : Option (List AttributeValue)) → IfSome o GoodUnsignedAttributes → InList o
  list_from None h = tt
  list_from (Some xs) h = ((h.each, h.size), some_octets 48 attribute_parts xs h.some)

  pub list_reader :
      IsReader (maybe_filled tag attributes_in) (optional_attributes tag) (λ o. IfSome o GoodUnsignedAttributes)
      (λ after. opt tag (filled (list 0x30 unsigned_attribute)) after) (Not tag) Anything
  list_reader = alike_reader _ (optional_attributes tag) InList
      (λ o. IfSome o GoodUnsignedAttributes) same_list list_to list_from
      (maybe_filled tag attributes_in) (λ after. opt tag (filled (list 0x30 unsigned_attribute)) after)
      (Not tag) (Not tag) Anything (λ r l. l)
      (maybe_filled_reader tag id attributes_in attributes_parts (AllByRecursion GoodAttribute)
      (list 0x30 unsigned_attribute) attributes_body refl)
