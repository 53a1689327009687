-- An archive time-stamp is read exactly when there is one.
use Rattle.std.proofs.Common.{◌≡◌, ◌≢◌, ℕ, List, [], ◌∷◌, ◌++◌, Option, Some, None, refl, sym, ap, subst}
use Rattle.std.specs.Prelude.{IfSome}
use Rattle.std.specs.List.{AllByRecursion}
use Rattle.der_core.specs.Element.{el}
use Rattle.der_core.specs.AlgorithmReading.{algorithm_in}
use Rattle.der_core.specs.Form.{opaque, filled}
use Rattle.der_core.specs.Grammar.{one, opt, list, ordered, algorithm}
use Rattle.der_core.specs.Reading.{maybe, maybe_filled, element_at, ◌then◌, any_at}
use Rattle.der_core.specs.Values.{HasLength, AlgorithmValue, algorithm_parts, GoodAlgorithm}
use Rattle.der_core.proofs.AlgorithmReader.{AlgorithmParts, algorithm_body}
use Rattle.der_core.proofs.FilledReaders.{GoodFilled, enc_filled, maybe_filled_reader}
use Rattle.der_core.proofs.Lists.{many_body}
use Rattle.der_core.proofs.PartReaders.{Always, Not, alike_body, alike_reader, element_reader}
use Rattle.der_core.proofs.Readers.{IsReader, IsBody, Anything, any_body, maybe_reader, then_reader, whole_body}
use Rattle.der_core.proofs.Readers.{made_body, enc_option, GoodOption}
use Rattle.der_grammar.specs.Table.{signed_attribute}
use Rattle.cms_types.specs.AttributeValue.{AttributeValue, GoodSignedAttributes, optional_attributes}
use Rattle.cms_types.specs.AttributeReading.{signed_attributes_in}
use Rattle.evidence_types.specs.EvidenceTable.{hash_list, archive_time_stamp}
use Rattle.evidence_types.specs.StampValue.{hash_list_parts, GoodHashList, hash_lists_parts, GoodHashLists}
use Rattle.evidence_types.specs.StampValue.{optional_algorithm, optional_hash_lists, StampValue, IsSequence}
use Rattle.evidence_types.specs.StampValue.{stamp_parts}
use Rattle.evidence_types.specs.StampReading.{values_in, lists_in, StampParts, stamp_from, stamp_in}
use Rattle.evidence_types.proofs.FilledLists.{some_octets, Inside, filled_many_body}
use Rattle.evidence_types.proofs.AttributeParts.{set_reader}

-- ---- hash values

abbrev ListedValue : List ℕ → Type 0
ListedValue v = Unit {0} × HasLength v

values_to : (vs : List (List ℕ)) → AllByRecursion ListedValue vs → AllByRecursion HasLength vs
values_to [] h = tt
values_to (v ∷ vs) h = (h.0.1, values_to vs h.1)

values_from : (vs : List (List ℕ)) → AllByRecursion HasLength vs → AllByRecursion ListedValue vs
values_from [] h = tt
values_from (v ∷ vs) h = ((tt, h.0), values_from vs h.1)

pub values_body : IsBody values_in hash_list_parts (AllByRecursion HasLength) (list 0x04 opaque)
values_body = alike_body hash_list_parts hash_list_parts (AllByRecursion ListedValue) (AllByRecursion HasLength)
    (λ vs. refl) values_to values_from values_in (list 0x04 opaque)
    (many_body 4 refl any_at (λ b. b) (λ b. Unit {0}) opaque any_body)

-- ---- lists of them

abbrev ListedList : List (List ℕ) → Type 0
ListedList vs =
    Inside 48 refl values_in hash_list_parts (AllByRecursion HasLength) (list 0x04 opaque) values_body refl vs

some_values : (vs : List (List ℕ)) → (hash_list_parts vs ≡ [] → ⊥) → vs ≢ []
some_values vs some e = some (ap hash_list_parts e)

lists_to : (ls : List (List (List ℕ))) → AllByRecursion ListedList ls → AllByRecursion GoodHashList ls
lists_to [] h = tt
lists_to (l ∷ ls) h = (record { each = h.0.0.0; some = some_values l h.0.1; size = h.0.0.1 }, lists_to ls h.1)

lists_from : (ls : List (List (List ℕ))) → AllByRecursion GoodHashList ls → AllByRecursion ListedList ls
lists_from [] h = tt
lists_from (l ∷ ls) h =
    (((h.0.each, h.0.size), some_octets 4 (λ (v : List ℕ). v) l h.0.some), lists_from ls h.1)

pub lists_body : IsBody lists_in hash_lists_parts (AllByRecursion GoodHashList) (list 0x30 hash_list)
lists_body = alike_body hash_lists_parts hash_lists_parts (AllByRecursion ListedList) (AllByRecursion GoodHashList)
    (λ ls. refl) lists_to lists_from lists_in (list 0x30 hash_list)
    (filled_many_body 48 refl values_in hash_list_parts (AllByRecursion HasLength) (list 0x04 opaque) values_body refl)

-- ---- lists that may be absent

abbrev Lists : Option (List (List (List ℕ))) → Type 0
Lists o = GoodFilled 162 refl lists_in hash_lists_parts (AllByRecursion GoodHashList) (list 0x30 hash_list)
    lists_body refl o

same_lists : (o : Option (List (List (List ℕ))))
    → enc_filled 162 refl lists_in hash_lists_parts (AllByRecursion GoodHashList) (list 0x30 hash_list)
    lists_body refl o ≡ optional_hash_lists 162 o
same_lists None = refl
same_lists (Some ls) = refl

some_lists : (ls : List (List (List ℕ))) → (hash_lists_parts ls ≡ [] → ⊥) → ls ≢ []
some_lists ls some e = some (ap hash_lists_parts e)

lists_good : (o : Option (List (List (List ℕ)))) → Lists o → IfSome o GoodHashLists
lists_good None h = tt
lists_good (Some ls) h = record { each = h.0.0; some = some_lists ls h.1; size = h.0.1 }

good_lists : (o : Option (List (List (List ℕ)))) → IfSome o GoodHashLists → Lists o
good_lists None h = tt
good_lists (Some ls) h = ((h.each, h.size), some_octets 48 hash_list_parts ls h.some)

lists_reader : IsReader (maybe_filled 0xa2 lists_in) (optional_hash_lists 162) (λ o. IfSome o GoodHashLists)
    (λ after. opt 0xa2 (filled (list 0x30 hash_list)) after) (Not 0xa2) Anything
lists_reader = alike_reader _ (optional_hash_lists 162) Lists
    (λ o. IfSome o GoodHashLists) same_lists lists_good good_lists
    (maybe_filled 0xa2 lists_in) (λ after. opt 0xa2 (filled (list 0x30 hash_list)) after)
    (Not 0xa2) (Not 0xa2) Anything (λ r l. l)
    (maybe_filled_reader 162 refl lists_in hash_lists_parts (AllByRecursion GoodHashList) (list 0x30 hash_list)
    lists_body refl)

-- ---- the algorithm, which may be absent

abbrev Named : Option AlgorithmValue → Type 0
Named o = GoodOption 160 refl algorithm_in algorithm_parts AlgorithmParts algorithm algorithm_body o

same_named : (o : Option AlgorithmValue)
    → enc_option 160 refl algorithm_in algorithm_parts AlgorithmParts algorithm algorithm_body o
    ≡ optional_algorithm 160 o
same_named None = refl
same_named (Some a) = refl

named_good : (o : Option AlgorithmValue) → Named o → IfSome o GoodAlgorithm
named_good None h = tt
named_good (Some a) h = record { oid = h.0.0; parameters = h.0.1; size = h.1 }

good_named : (o : Option AlgorithmValue) → IfSome o GoodAlgorithm → Named o
good_named None h = tt
good_named (Some a) h = ((h.oid, h.parameters), h.size)

algorithm_part : IsReader (maybe 0xa0 algorithm_in) (optional_algorithm 160) (λ o. IfSome o GoodAlgorithm)
    (opt 0xa0 algorithm) (Not 0xa0) Anything
algorithm_part = alike_reader _ (optional_algorithm 160) Named
    (λ o. IfSome o GoodAlgorithm) same_named named_good good_named
    (maybe 0xa0 algorithm_in) (opt 0xa0 algorithm) (Not 0xa0) (Not 0xa0) Anything (λ r l. l)
    (maybe_reader 160 refl algorithm_in algorithm_parts AlgorithmParts algorithm algorithm_body)

-- ---- the parts, each apart from those before it

stamp_front : (x r : List ℕ) → IsSequence x → Not 0xa2 (x ++ r)
stamp_front x r h = subst (λ (y : List ℕ). Not 0xa2 (y ++ r)) (sym h.2) refl

lists_front : (o : Option (List (List (List ℕ)))) (x r : List ℕ) → IsSequence x
    → Not 0xa1 ((optional_hash_lists 162 o ++ x) ++ r)
lists_front o x r h =
    subst (λ (y : List ℕ). Not 0xa1 ((optional_hash_lists 162 o ++ y) ++ r)) (sym h.2) (go o)
  where
    go : (o : Option (List (List (List ℕ)))) → Not 0xa1 ((optional_hash_lists 162 o ++ el 48 h.0) ++ r)
    go None = refl
    go (Some ls) = refl

attributes_front : (a : Option (List AttributeValue)) (o : Option (List (List (List ℕ)))) (x r : List ℕ) → IsSequence x
    → Not 0xa0 ((optional_attributes 161 a ++ (optional_hash_lists 162 o ++ x)) ++ r)
attributes_front a o x r h =
    subst (λ (y : List ℕ). Not 0xa0 ((optional_attributes 161 a ++ (optional_hash_lists 162 o ++ y)) ++ r)) (sym h.2)
    (go a o)
  where
    go : (a : Option (List AttributeValue)) (o : Option (List (List (List ℕ))))
        → Not 0xa0 ((optional_attributes 161 a ++ (optional_hash_lists 162 o ++ el 48 h.0)) ++ r)
    go None None = refl
    go None (Some ls) = refl
    go (Some xs) o = refl

abbrev spelled : StampParts → List ℕ
spelled p = optional_algorithm 160 p.0
    ++ (optional_attributes 161 p.1.0 ++ (optional_hash_lists 162 p.1.1.0 ++ p.1.1.1))

abbrev GoodParts : StampParts → Type 0
GoodParts p = IfSome p.0 GoodAlgorithm
    × (IfSome p.1.0 GoodSignedAttributes × (IfSome p.1.1.0 GoodHashLists × IsSequence p.1.1.1))

parts_reader : IsReader
    (maybe 0xa0 algorithm_in then maybe_filled 0xa1 signed_attributes_in then maybe_filled 0xa2 lists_in
    then element_at 0x30) spelled GoodParts
    (λ after. opt 0xa0 algorithm (opt 0xa1 (filled (ordered 0x30 signed_attribute))
    (opt 0xa2 (filled (list 0x30 hash_list)) (one 0x30 opaque after))))
    Always Anything
parts_reader =
    let reduced = then_reader _ _ _ _ _ lists_reader _ _ _ _ _ _ (element_reader 0x30)
    (λ y r h l. stamp_front y r h) in
    let described = then_reader _ _ _ _ _ (set_reader 161 refl) _ _ _ _ _ _ reduced
    (λ y r h l. lists_front y.0 y.1 r h.1) in
    then_reader _ _ _ _ _ algorithm_part _ _ _ _ _ _ described
    (λ y r h l. attributes_front y.0 y.1.0 y.1.1 r h.1.1)

-- ---- an archive time-stamp

abbrev tuple : StampValue → StampParts
tuple s = (s.algorithm, (s.attributes, (s.lists, s.stamp)))

abbrev pub GoodTuple : StampValue → Type 0
GoodTuple s = GoodParts (tuple s)

pub stamp_body : IsBody stamp_in stamp_parts GoodTuple archive_time_stamp
unfolding stamp_in
stamp_body = made_body stamp_from tuple (λ s. refl) _ spelled GoodParts archive_time_stamp
    (whole_body _ _ _ _ _ _ parts_reader tt tt) (λ p h. refl)
