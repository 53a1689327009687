-- What is read of a response is good and stands there, what is good is read, and faults are those of the grammar.
use Rattle.std.proofs.Common.{◌≡◌, ℕ, true, List, [], ◌∷◌, ◌++◌, Option, Some, None, Ok, Err, refl, sym, ap, subst, ◌∙◌}
use Rattle.std.specs.Prelude.{IfSome}
use Rattle.std.specs.List.{AllByRecursion}
use Rattle.der_core.specs.declared.fault.Fault.{Fault}
use Rattle.der_core.specs.Contents.{is_integer, is_bits}
use Rattle.der_core.specs.Element.{el, IsBytes}
use Rattle.der_core.specs.Encoding.{IsEncoding}
use Rattle.der_core.specs.Faults.{Faults}
use Rattle.der_core.specs.Form.{opaque}
use Rattle.der_core.specs.LastElement.{last_element}
use Rattle.der_core.specs.Reading.{spot, within, maybe, last, ◌then◌, whole_of, any_at, integer_in, bits_in}
use Rattle.der_core.specs.Grammar.{one, opt, list, integer, bits, file}
use Rattle.der_grammar.specs.Table.{status, response}
use Rattle.der_core.specs.Values.{optional, optional_whole, HasLength, IsInteger}
use Rattle.der_core.proofs.LastElement.{last_element_reader}
use Rattle.der_core.proofs.Lists.{many_body}
use Rattle.der_core.proofs.PartReaders.{Not, Last, alike_body, alike_reader, integer_body, bits_body, opt_last_reader}
use Rattle.der_core.proofs.ReadLengths.{ok_is}
use Rattle.der_core.proofs.Readers.{Anything, Nothing, IsReader, IsBody, any_body, within_reader, maybe_reader}
use Rattle.der_core.proofs.Readers.{then_reader, whole_body, made_body, enc_option}
use Rattle.der_core.proofs.Readers.{GoodOption}
use Rattle.tsp_types.specs.ResponseValue.{StatusValue, texts_parts, optional_texts, GoodTexts, status_parts}
use Rattle.tsp_types.specs.ResponseValue.{ResponseValue, IsToken, response_parts, encoding}
use Rattle.tsp_types.specs.ResponseValue.{GoodResponse, EncodesResponse}
use Rattle.tsp_types.specs.ResponseReading.{texts_in, status_from, status_in, response_from, response_in, response_at}

-- ---- the texts

abbrev Listed : List ℕ → Type 0
Listed t = Unit {0} × HasLength t

abbrev Each : List (List ℕ) → Type 0
Each ts = AllByRecursion HasLength ts

listed_each : (ts : List (List ℕ)) → AllByRecursion Listed ts → Each ts
listed_each [] h = tt
listed_each (t ∷ ts) h = (h.0.1, listed_each ts h.1)

each_listed : (ts : List (List ℕ)) → Each ts → AllByRecursion Listed ts
each_listed [] h = tt
each_listed (t ∷ ts) h = ((tt, h.0), each_listed ts h.1)

texts_body : IsBody texts_in texts_parts Each (list 0x0c opaque)
texts_body = alike_body texts_parts texts_parts (AllByRecursion Listed) Each
    (λ ts. refl) listed_each each_listed texts_in (list 0x0c opaque)
    (many_body 12 refl any_at (λ b. b) (λ b. Unit {0}) opaque any_body)

abbrev AreTexts : Option (List (List ℕ)) → Type 0
AreTexts o = IfSome o GoodTexts

texts_reader : IsReader (maybe 0x30 texts_in) optional_texts AreTexts (opt 0x30 (list 0x0c opaque)) (Not 0x30) Anything
texts_reader = alike_reader spelled optional_texts GoodSpelled AreTexts same good back (maybe 0x30 texts_in)
    (opt 0x30 (list 0x0c opaque)) (Not 0x30)
    (Not 0x30) Anything (λ r l. l) (maybe_reader 0x30 refl texts_in texts_parts Each (list 0x0c opaque) texts_body)
  where
    spelled : Option (List (List ℕ)) → List ℕ
    spelled o = enc_option 48 refl texts_in texts_parts Each (list 0x0c opaque) texts_body o

    GoodSpelled : Option (List (List ℕ)) → Type 0
    GoodSpelled o = GoodOption 48 refl texts_in texts_parts Each (list 0x0c opaque) texts_body o

    same : (o : Option (List (List ℕ))) → spelled o ≡ optional_texts o
    same None = refl
    same (Some ts) = refl

    good : (o : Option (List (List ℕ))) → GoodSpelled o → AreTexts o
    good None h = tt
    good (Some ts) h = h

    back : (o : Option (List (List ℕ))) → AreTexts o → GoodSpelled o
    back None h = tt
    back (Some ts) h = h

-- ---- the status

abbrev IsFail : Option (List ℕ) → Type 0
IsFail o = IfSome o (λ b. (is_bits b ≡ true) × HasLength b)

abbrev StatusParts : StatusValue → Type 0
StatusParts s = IsInteger s.number × (AreTexts s.texts × IsFail s.fail)

fail_apart : (o : Option (List ℕ)) (r : List ℕ) → r ≡ [] → Not 0x30 (optional 0x03 o ++ r)
fail_apart None r l = rw l refl
fail_apart (Some b) r l = refl

status_body : IsBody status_in status_parts StatusParts status
unfolding status_in
status_body = made_body status_from (λ s. (s.number, (s.texts, s.fail)))
    (λ s. refl) _ (λ p. el 0x02 p.0 ++ (optional_texts p.1.0 ++ optional 0x03 p.1.1))
    (λ p. IsInteger p.0 × (AreTexts p.1.0 × IsFail p.1.1)) status
    (whole_body _ _ _ _ _ _ parts refl refl) (λ p h. refl)
  where
    said : IsReader (maybe 0x30 texts_in then last 0x03 bits_in) (λ p. optional_texts p.0 ++ optional 0x03 p.1)
        (λ p. AreTexts p.0 × IsFail p.1)
        (λ after. opt 0x30 (list 0x0c opaque) (opt 0x03 bits after)) Last Nothing
    said = then_reader _ _ _ _ _ texts_reader _ _ _ _ _ _
        (opt_last_reader 0x03 refl bits_in (λ b. is_bits b ≡ true) bits bits_body)
        (λ y r h l. fail_apart y r l)

    parts : IsReader (within 0x02 integer_in then maybe 0x30 texts_in then last 0x03 bits_in)
        (λ p. el 0x02 p.0 ++ (optional_texts p.1.0 ++ optional 0x03 p.1.1))
        (λ p. IsInteger p.0 × (AreTexts p.1.0 × IsFail p.1.1))
        (λ after. one 0x02 integer (opt 0x30 (list 0x0c opaque) (opt 0x03 bits after))) Last Nothing
    parts = then_reader _ _ _ _ _ (within_reader 0x02 refl integer_in (λ b. b)
        (λ b. is_integer b ≡ true) integer integer_body) _ _ _ _ _ _ said (λ y r h l. tt)

-- ---- a response

abbrev ResponseParts : ResponseValue → Type 0
ResponseParts v = (StatusParts v.status × HasLength (status_parts v.status)) × IfSome v.token IsToken

response_body : IsBody response_in response_parts ResponseParts response
unfolding response_in
response_body = made_body response_from (λ v. (v.status, v.token)) (λ v. refl) _
    (λ p. el 0x30 (status_parts p.0) ++ optional_whole p.1)
    (λ p. (StatusParts p.0 × HasLength (status_parts p.0)) × IfSome p.1 IsToken) response
    (whole_body _ _ _ _ _ _ parts refl refl) (λ p h. refl)
  where
    parts :
        IsReader (within 0x30 status_in then last_element 0x30) (λ p. el 0x30 (status_parts p.0) ++ optional_whole p.1)
        (λ p. (StatusParts p.0 × HasLength (status_parts p.0)) × IfSome p.1 IsToken)
        (λ after. one 0x30 status (opt 0x30 opaque after)) Last Nothing
    parts = then_reader _ _ _ _ _ (within_reader 0x30 refl status_in status_parts StatusParts status status_body)
        _ _ _ _ _ _ (last_element_reader 0x30 refl) (λ y r h l. tt)

file_body : IsBody (whole_of (within 0x30 response_in)) encoding GoodResponse (file response)
file_body = alike_body _ encoding _ GoodResponse (λ v. refl)
    (λ v h. let s = h.0.0.0 in record {
      status = record { number = s.0; texts = s.1.0; fail = s.1.1; size = h.0.0.1 };
      token = h.0.1;
      size = h.1;
    })
    (λ v h. let s = h.status in ((((s.number, (s.texts, s.fail)), s.size), h.token), h.size)) _ (file response)
    (whole_body _ _ _ _ _ _
    (within_reader 0x30 refl response_in response_parts ResponseParts response response_body) tt tt)

pub response_takes : (bytes : List ℕ) (v : ResponseValue) → IsBytes bytes → response_at bytes ≡ Ok v
    → EncodesResponse bytes v
unfolding response_at
response_takes bytes v fits e = let t = file_body.takes (spot 0 bytes) v fits e in (t.1, t.0)

pub response_again : (bytes : List ℕ) (v : ResponseValue) → EncodesResponse bytes v → response_at bytes ≡ Ok v
unfolding response_at
response_again bytes v h = ap response_at h.0 ∙ file_body.again v 0 h.1

pub response_fault : (bytes : List ℕ) (f : Fault) → IsBytes bytes → response_at bytes ≡ Err f
    → Faults (file response) bytes f
unfolding response_at
response_fault bytes f fits e = file_body.faults (spot 0 bytes) f fits e

-- ---- the definitions agree

pub response_encodes : (bytes : List ℕ) (v : ResponseValue) → EncodesResponse bytes v → IsEncoding (file response) bytes
response_encodes bytes v h = subst (IsEncoding (file response)) (sym h.0) (file_body.encodes v h.1)

pub response_unique : (bytes : List ℕ) (v w : ResponseValue) → EncodesResponse bytes v → EncodesResponse bytes w → v ≡ w
response_unique bytes v w h k = ok_is v w (sym (response_again bytes v h) ∙ response_again bytes w k)
