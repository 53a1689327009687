-- Attributes are read exactly when they are there.
use Rattle.std.proofs.Common.{◌≡◌, ◌≢◌, ℕ, List, [], ◌∷◌, ◌++◌, map, drop, Option, Some, None, Result, Ok, Err, refl}
use Rattle.std.proofs.Common.{sym, ap, ◌∙◌}
use Rattle.std.specs.Prelude.{IfSome, IsOk}
use Rattle.std.specs.List.{AllByRecursion}
use Rattle.std.proofs.lemmas.List.Concat.{flat_map-cons}
use Rattle.der_core.specs.declared.fault.Fault.{Fault}
use Rattle.der_core.specs.Element.{el, IsBytes}
use Rattle.der_core.specs.Form.{Many, Ordered, full, opaques, filled}
use Rattle.der_core.specs.Grammar.{opt, list, ordered}
use Rattle.der_grammar.specs.Table.{signed_attribute, unsigned_attribute}
use Rattle.der_core.specs.Reading.{Spot, spot, within, ◌then◌, whole_of, oid_in, maybe_filled, last_filled}
use Rattle.der_core.specs.Values.{HasLength, IsOid, IsOpaque}
use Rattle.der_core.proofs.Readers.{IsReader, IsBody, Anything, Nothing, within_reader, then_reader, whole_body}
use Rattle.der_core.proofs.Readers.{made_body}
use Rattle.der_core.proofs.PartReaders.{Not, alike_body, alike_reader, oid_reader}
use Rattle.der_core.proofs.FilledReaders.{GoodFilled, enc_filled, maybe_filled_reader, last_filled_reader}
use Rattle.der_core.proofs.Lists.{many_body}
use Rattle.der_lists.specs.Items.{all_in, IsList}
use Rattle.der_lists.specs.Ranks.{Ascending}
use Rattle.der_lists.proofs.Items.{ok_items}
use Rattle.der_lists.proofs.OpaqueLists.{opaques_body, ordered_opaques_body}
use Rattle.der_lists.proofs.OrderedLists.{ordered_body, InOrder}
use Rattle.cms_types.specs.AttributeValue.{AttributeValue, joined, attribute_parts, attribute_element, attributes_parts}
use Rattle.cms_types.specs.AttributeValue.{GoodAttribute, GoodSignedAttribute}
use Rattle.cms_types.specs.AttributeValue.{GoodSignedAttributes, GoodUnsignedAttributes, optional_attributes, tail_of}
use Rattle.cms_types.specs.AttributeReading.{attribute_from, values_in, ordered_values_in, attribute_in}
use Rattle.cms_types.specs.AttributeReading.{signed_attribute_in, attributes_in}
use Rattle.cms_types.specs.AttributeReading.{signed_attributes_in}

abbrev EachOpaque : List (List ℕ) → Type 0
EachOpaque xs = AllByRecursion IsOpaque xs

abbrev EachInOrder : List (List ℕ) → Type 0
EachInOrder xs = AllByRecursion IsOpaque xs × Ascending xs

-- ---- one attribute

abbrev pub AttributeParts : AttributeValue → Type 0
AttributeParts a = IsOid a.id × (EachOpaque a.values × HasLength (joined a.values))

pub attribute_body : IsBody attribute_in attribute_parts AttributeParts unsigned_attribute
unfolding attribute_in
attribute_body = made_body attribute_from (λ a. (a.id, a.values)) (λ a. refl)
    (whole_of (within 0x06 oid_in then within 0x31 values_in))
    (λ p. el 0x06 p.0 ++ el 0x31 (joined p.1))
    (λ p. IsOid p.0 × (EachOpaque p.1 × HasLength (joined p.1))) unsigned_attribute
    (whole_body _ _ _ _ _ _
    (then_reader _ _ _ _ _ oid_reader _ _ _ _ _ _ (within_reader 0x31 refl values_in joined EachOpaque
    (opaques Many full) opaques_body) (λ y r h l. tt)) tt tt) (λ p h. refl)

abbrev pub SignedParts : AttributeValue → Type 0
SignedParts a = IsOid a.id × (EachInOrder a.values × HasLength (joined a.values))

pub signed_attribute_body : IsBody signed_attribute_in attribute_parts SignedParts signed_attribute
unfolding signed_attribute_in
signed_attribute_body = made_body attribute_from (λ a. (a.id, a.values)) (λ a. refl)
    (whole_of (within 0x06 oid_in then within 0x31 ordered_values_in)) (λ p. el 0x06 p.0 ++ el 0x31 (joined p.1))
    (λ p. IsOid p.0 × (EachInOrder p.1 × HasLength (joined p.1))) signed_attribute
    (whole_body _ _ _ _ _ _
    (then_reader _ _ _ _ _ oid_reader _ _ _ _ _ _ (within_reader 0x31 refl ordered_values_in joined EachInOrder
    (opaques Ordered full) ordered_opaques_body) (λ y r h l. tt)) tt tt) (λ p h. refl)

-- ---- lists of them

abbrev Listed : AttributeValue → Type 0
Listed a = AttributeParts a × HasLength (attribute_parts a)

listed_good : (xs : List AttributeValue) → AllByRecursion Listed xs → AllByRecursion GoodAttribute xs
listed_good [] h = tt
listed_good (a ∷ xs) h =
    (record { id = h.0.0.0; values = h.0.0.1.0; set = h.0.0.1.1; size = h.0.1 }, listed_good xs h.1)

good_listed : (xs : List AttributeValue) → AllByRecursion GoodAttribute xs → AllByRecursion Listed xs
good_listed [] h = tt
good_listed (a ∷ xs) h = (((h.0.id, (h.0.values, h.0.set)), h.0.size), good_listed xs h.1)

pub attributes_body :
    IsBody attributes_in attributes_parts (AllByRecursion GoodAttribute) (list 0x30 unsigned_attribute)
attributes_body = alike_body attributes_parts attributes_parts (AllByRecursion Listed) (AllByRecursion GoodAttribute)
    (λ xs. refl) listed_good good_listed attributes_in (list 0x30 unsigned_attribute)
    (many_body 48 refl attribute_in attribute_parts AttributeParts unsigned_attribute attribute_body)

abbrev SignedListed : AttributeValue → Type 0
SignedListed a = SignedParts a × HasLength (attribute_parts a)

abbrev EachSigned : List AttributeValue → Type 0
EachSigned xs = AllByRecursion GoodSignedAttribute xs × Ascending (map attribute_element xs)

signed_listed_good : (xs : List AttributeValue) → AllByRecursion SignedListed xs → AllByRecursion GoodSignedAttribute xs
signed_listed_good [] h = tt
signed_listed_good (a ∷ xs) h = (
  record {
    good = record { id = h.0.0.0; values = h.0.0.1.0.0; set = h.0.0.1.1; size = h.0.1 };
    ascending = h.0.0.1.0.1;
  },
  signed_listed_good xs h.1,
)

good_signed_listed : (xs : List AttributeValue) → AllByRecursion GoodSignedAttribute xs → AllByRecursion SignedListed xs
good_signed_listed [] h = tt
good_signed_listed (a ∷ xs) h =
    (((h.0.good.id, ((h.0.good.values, h.0.ascending), h.0.good.set)), h.0.good.size), good_signed_listed xs h.1)

pub signed_attributes_body : IsBody signed_attributes_in attributes_parts EachSigned (ordered 0x30 signed_attribute)
signed_attributes_body = alike_body attributes_parts attributes_parts
    (InOrder 48 refl signed_attribute_in attribute_parts SignedParts signed_attribute signed_attribute_body) EachSigned
    (λ xs. refl)
    (λ xs h. (signed_listed_good xs h.0, h.1)) (λ xs h. (good_signed_listed xs h.0, h.1)) signed_attributes_in
    (ordered 0x30 signed_attribute)
    (ordered_body 48 refl signed_attribute_in attribute_parts SignedParts signed_attribute signed_attribute_body)

-- ---- signed attributes are attributes

signed_good : (xs : List AttributeValue) → AllByRecursion GoodSignedAttribute xs → AllByRecursion GoodAttribute xs
signed_good [] h = tt
signed_good (a ∷ xs) h = (h.0.good, signed_good xs h.1)

abbrev Read : Type 0
Read = Result (List AttributeValue) Fault

pub signed_list : (s : Spot) → IsBytes s.rest → IsOk (signed_attributes_in s)
    → IsList (within 0x30 attribute_in) s × (signed_attributes_in s ≡ Ok (all_in (within 0x30 attribute_in) s))
signed_list s fits h = go (signed_attributes_in s) refl h
  where
    go : (r : Read) → signed_attributes_in s ≡ r → IsOk r
        → IsList (within 0x30 attribute_in) s × (signed_attributes_in s ≡ Ok (all_in (within 0x30 attribute_in) s))
    go (Err f) e k = absurd cc
    go (Ok xs) e k =
        let t = signed_attributes_body.takes s xs fits e in
        let listed : attributes_in s ≡ Ok xs = ap (λ (b : List ℕ). attributes_in (spot s.pos b)) t.1
        ∙ attributes_body.again xs s.pos (signed_good xs t.0.0) in
        (rw listed refl, rw listed e)

-- signed attributes that are read are there
pub signed_stands : (s : Spot) (xs : List AttributeValue) → IsBytes s.rest → signed_attributes_in s ≡ Ok xs
    → s.rest ≡ attributes_parts xs
signed_stands s xs fits e = (signed_attributes_body.takes s xs fits e).1

-- ---- if there are some

some_octets : (xs : List AttributeValue) → xs ≢ [] → attributes_parts xs ≡ [] → ⊥
some_octets [] some e = some refl
some_octets (a ∷ xs) some e = let z = sym (flat_map-cons attribute_element a xs) ∙ e in cc

some_attributes : (xs : List AttributeValue) → (attributes_parts xs ≡ [] → ⊥) → xs ≢ []
some_attributes xs some e = some (ap attributes_parts e)

abbrev Signed : Option (List AttributeValue) → Type 0
Signed o = GoodFilled 160 refl signed_attributes_in attributes_parts EachSigned
    (ordered 0x30 signed_attribute) signed_attributes_body refl o

same_signed : (o : Option (List AttributeValue))
    → enc_filled 160 refl signed_attributes_in attributes_parts EachSigned (ordered 0x30
    signed_attribute) signed_attributes_body refl o ≡ optional_attributes 160 o
same_signed None = refl
same_signed (Some xs) = refl

signed_to : (o : Option (List AttributeValue)) → Signed o → IfSome o GoodSignedAttributes
signed_to None h = tt
signed_to (Some xs) h = record { each = h.0.0.0; ascending = h.0.0.1; some = some_attributes xs h.1; size = h.0.1 }

signed_from : (o : Option (List AttributeValue)) → IfSome o GoodSignedAttributes → Signed o
signed_from None h = tt
signed_from (Some xs) h = (((h.each, h.ascending), h.size), some_octets xs h.some)

pub signed_reader :
    IsReader (maybe_filled 0xa0 signed_attributes_in) (optional_attributes 160) (λ o. IfSome o GoodSignedAttributes)
    (λ after. opt 0xa0 (filled (ordered 0x30 signed_attribute)) after) (Not 0xa0) Anything
signed_reader = alike_reader _ (optional_attributes 160) Signed
    (λ o. IfSome o GoodSignedAttributes) same_signed signed_to signed_from
    (maybe_filled 0xa0 signed_attributes_in) (λ after. opt 0xa0 (filled (ordered 0x30 signed_attribute)) after)
    (Not 0xa0)
    (Not 0xa0) Anything (λ r l. l)
    (maybe_filled_reader 160 refl signed_attributes_in attributes_parts EachSigned
    (ordered 0x30 signed_attribute) signed_attributes_body refl)

abbrev Unsigned : Option (List AttributeValue) → Type 0
Unsigned o = GoodFilled 161 refl attributes_in attributes_parts (AllByRecursion GoodAttribute)
    (list 0x30 unsigned_attribute) attributes_body refl o

same_unsigned : (o : Option (List AttributeValue))
    → enc_filled 161 refl attributes_in attributes_parts (AllByRecursion GoodAttribute) (list 0x30
    unsigned_attribute) attributes_body refl o ≡ optional_attributes 161 o
same_unsigned None = refl
same_unsigned (Some xs) = refl

unsigned_to : (o : Option (List AttributeValue)) → Unsigned o → IfSome o GoodUnsignedAttributes
unsigned_to None h = tt
unsigned_to (Some xs) h = record { each = h.0.0; some = some_attributes xs h.1; size = h.0.1 }

unsigned_from : (o : Option (List AttributeValue)) → IfSome o GoodUnsignedAttributes → Unsigned o
unsigned_from None h = tt
unsigned_from (Some xs) h = ((h.each, h.size), some_octets xs h.some)

abbrev pub AtEnd : List ℕ → Type 0
AtEnd r = r ≡ []

pub unsigned_reader :
    IsReader (last_filled 0xa1 attributes_in) (optional_attributes 161) (λ o. IfSome o GoodUnsignedAttributes)
    (λ after. opt 0xa1 (filled (list 0x30 unsigned_attribute)) after) AtEnd Nothing
unsigned_reader = alike_reader _ (optional_attributes 161) Unsigned
    (λ o. IfSome o GoodUnsignedAttributes) same_unsigned unsigned_to unsigned_from
    (last_filled 0xa1 attributes_in)
    (λ after. opt 0xa1 (filled (list 0x30 unsigned_attribute)) after) AtEnd AtEnd Nothing (λ r l. l)
    (last_filled_reader 161 refl attributes_in attributes_parts (AllByRecursion GoodAttribute)
    (list 0x30 unsigned_attribute) attributes_body refl)

pub tested : {r : Read} {xs : List AttributeValue} → r ≡ Ok xs → IsOk r
tested e = rw e refl

-- an element without its first octet is the tail of what is signed
pub tail_there : (whole tail b : List ℕ) (xs : List AttributeValue) → whole ≡ el 0xa0 b → tail ≡ drop 1 whole
    → b ≡ attributes_parts xs → tail ≡ tail_of xs
tail_there whole tail b xs w t s = t ∙ ap (drop 1) w ∙ ap (λ (c : List ℕ). drop 1 (el 0xa0 c)) s

-- the attributes of a list are those of its octets
pub attributes_there : (s : Spot) → IsBytes s.rest → IsList (within 0x30 attribute_in) s
    → (s.rest ≡ attributes_parts (all_in (within 0x30 attribute_in) s))
    × AllByRecursion GoodAttribute (all_in (within 0x30 attribute_in) s)
attributes_there s fits h = let t =
    attributes_body.takes s (all_in (within 0x30 attribute_in) s) fits (ok_items (attributes_in s) h) in (t.1, t.0)
