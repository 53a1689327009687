-- What is read of a TSTInfo is good and stands there, what is good is read, and faults are those of the grammar.
use Rattle.std.proofs.Common.{◌≡◌, ℕ, true, List, [], ◌∷◌, ◌++◌, Option, Some, None, Ok, Err, refl, sym, ap, subst, ◌∙◌}
use Rattle.std.proofs.Common.{append_assoc, lit<}
use Rattle.std.specs.Prelude.{IfSome}
use Rattle.der_core.specs.declared.fault.Fault.{Fault}
use Rattle.der_core.specs.declared.flag.Flag.{Flag}
use Rattle.der_core.specs.Element.{is_tag, el, IsBytes}
use Rattle.der_core.specs.Form.{One, opaques, full}
use Rattle.der_core.specs.Contents.{is_integer}
use Rattle.der_core.specs.Times.{is_generalized}
use Rattle.der_core.specs.Values.{optional, flag, HasLength, IsOid, IsInteger, IsOpaque}
use Rattle.der_core.specs.Encoding.{IsEncoding}
use Rattle.der_core.specs.Faults.{Faults}
use Rattle.der_core.specs.Grammar.{one, opt, list, is_of, version, oid, integer, boolean, generalized, file}
use Rattle.der_grammar.specs.Table.{imprint, accuracy, extension, tst_info}
use Rattle.der_core.specs.Reading.{spot, within, maybe, last, ◌then◌, whole_of, oid_in, integer_in, version_in}
use Rattle.der_core.specs.Flags.{flag_at}
use Rattle.der_core.proofs.ReadLengths.{ok_is}
use Rattle.der_core.proofs.Readers.{Anything, Nothing, IsReader, IsBody, within_reader, maybe_reader, last_reader}
use Rattle.der_core.proofs.Readers.{then_reader, whole_body, made_body}
use Rattle.der_core.proofs.Readers.{enc_option, GoodOption}
use Rattle.der_core.proofs.Fronts.{Apart, Others, front_apart, optional_apart, flags_apart, at_end_apart}
use Rattle.der_core.proofs.PartReaders.{Not, Last, alike_body, alike_reader, integer_body, version_body, oid_reader}
use Rattle.der_core.proofs.PartReaders.{opt_reader, opt_last_reader, flag_reader, only_version}
use Rattle.der_lists.specs.Items.{explicit_opaque_in}
use Rattle.der_time.specs.TimeReading.{generalized_text_in}
use Rattle.der_time.proofs.TimeReaders.{generalized_body}
use Rattle.der_lists.proofs.OpaqueReader.{explicit_opaque_body}
use Rattle.cert_types.specs.ExtensionValue.{ExtensionValue, extensions_parts, optional_extensions, GoodExtensions}
use Rattle.cert_types.specs.ExtensionReading.{extensions_in}
use Rattle.cert_types.proofs.ExtensionReaders.{extensions_body}
use Rattle.tsp_types.specs.ImprintValue.{imprint_parts, GoodImprint}
use Rattle.tsp_types.specs.ImprintReading.{imprint_in}
use Rattle.tsp_types.specs.TstValue.{AccuracyValue, accuracy_parts, optional_accuracy, GoodAccuracy, TstValue}
use Rattle.tsp_types.specs.TstValue.{tst_parts, encoding, GoodTst, EncodesTst}
use Rattle.tsp_types.specs.TstReading.{accuracy_from, accuracy_in, Parts, tst_from, tst_in, tst_at}
use Rattle.tsp_types.proofs.RequestReaders.{imprint_reader}

abbrev Same : List ℕ → List ℕ
Same b = b

-- ---- accuracy

abbrev IsNumber : Option (List ℕ) → Type 0
IsNumber o = IfSome o IsInteger

abbrev AccuracyGiven : AccuracyValue → Type 0
AccuracyGiven a = IsNumber a.seconds × (IsNumber a.millis × IsNumber a.micros)

accuracy_body : IsBody accuracy_in accuracy_parts AccuracyGiven accuracy
unfolding accuracy_in
accuracy_body = made_body accuracy_from (λ a. (a.seconds, (a.millis, a.micros))) (λ a. refl) _ (λ p. optional 0x02 p.0
    ++ (optional 0x80 p.1.0 ++ optional 0x81 p.1.1)) (λ p. IsNumber p.0 × (IsNumber p.1.0 × IsNumber p.1.1)) accuracy
    (whole_body _ _ _ _ _ _ parts refl refl) (λ p h. refl)
  where
    number : (tag : ℕ) (id : is_tag tag ≡ true)
        → IsReader (maybe tag integer_in) (optional tag) IsNumber (opt tag integer) (Not tag) Anything
    number tag id = opt_reader tag id integer_in (λ b. is_integer b ≡ true) integer integer_body

    micros : IsReader (last 0x81 integer_in) (optional 0x81) IsNumber (opt 0x81 integer) Last Nothing
    micros = opt_last_reader 0x81 refl integer_in (λ b. is_integer b ≡ true) integer integer_body

    millis : IsReader (maybe 0x80 integer_in then last 0x81 integer_in) (λ p. optional 0x80 p.0 ++ optional 0x81 p.1)
        (λ p. IsNumber p.0 × IsNumber p.1) (λ after. opt 0x80 integer (opt 0x81 integer after)) Last Nothing
    millis = then_reader _ _ _ _ _ (number 128 refl) _ _ _ _ _ _ micros
        (λ y r h l. (optional_apart 129 y r (128 ∷ []) (refl, tt) (at_end_apart (128 ∷ []) r l)).0)

    parts : IsReader (maybe 0x02 integer_in then maybe 0x80 integer_in then last 0x81 integer_in)
        (λ p. optional 0x02 p.0 ++ (optional 0x80 p.1.0 ++ optional 0x81 p.1.1))
        (λ p. IsNumber p.0 × (IsNumber p.1.0 × IsNumber p.1.1))
        (λ after. opt 0x02 integer (opt 0x80 integer (opt 0x81 integer after))) Last Nothing
    parts = then_reader _ _ _ _ _ (number 2 refl) _ _ _ _ _ _ millis
        (λ y r h l. rw (append_assoc (optional 0x80 y.0) (optional 0x81 y.1) r)
        (optional_apart 128 y.0 (optional 0x81 y.1 ++ r) (2 ∷ []) (refl, tt)
        (optional_apart 129 y.1 r (2 ∷ []) (refl, tt) (at_end_apart (2 ∷ []) r l))).0)

abbrev IsAccuracy : Option AccuracyValue → Type 0
IsAccuracy o = IfSome o GoodAccuracy

accuracy_reader : IsReader (maybe 0x30 accuracy_in) optional_accuracy IsAccuracy (opt 0x30 accuracy) (Not 0x30) Anything
accuracy_reader = alike_reader listed optional_accuracy GoodListed IsAccuracy same good back (maybe 0x30 accuracy_in)
    (opt 0x30 accuracy) (Not 0x30)
    (Not 0x30) Anything (λ r l. l)
    (maybe_reader 0x30 refl accuracy_in accuracy_parts AccuracyGiven accuracy accuracy_body)
  where
    listed : Option AccuracyValue → List ℕ
    listed o = enc_option 48 refl accuracy_in accuracy_parts AccuracyGiven accuracy accuracy_body o

    GoodListed : Option AccuracyValue → Type 0
    GoodListed o = GoodOption 48 refl accuracy_in accuracy_parts AccuracyGiven accuracy accuracy_body o

    same : (o : Option AccuracyValue) → listed o ≡ optional_accuracy o
    same None = refl
    same (Some a) = refl

    good : (o : Option AccuracyValue) → GoodListed o → IsAccuracy o
    good None h = tt
    good (Some a) h = record { seconds = h.0.0; millis = h.0.1.0; micros = h.0.1.1; size = h.1 }

    back : (o : Option AccuracyValue) → IsAccuracy o → GoodListed o
    back None h = tt
    back (Some a) h = ((h.seconds, (h.millis, h.micros)), h.size)

-- ---- the extensions, which are the last part

abbrev GoodList : Option (List ExtensionValue) → Type 0
GoodList o = IfSome o (λ es. GoodExtensions es × HasLength (extensions_parts es))

extensions_last :
    IsReader (last 0xa1 extensions_in) (optional_extensions 161) GoodList (opt 0xa1 (list 0x30 extension)) Last Nothing
extensions_last = alike_reader listed (optional_extensions 161) GoodListed GoodList same good back
    (last 0xa1 extensions_in) _ Last Last Nothing (λ r l. l)
    (last_reader 0xa1 refl extensions_in extensions_parts GoodExtensions (list 0x30 extension) extensions_body)
  where
    listed : Option (List ExtensionValue) → List ℕ
    listed o = enc_option 161 refl extensions_in extensions_parts GoodExtensions (list 0x30 extension) extensions_body o

    GoodListed : Option (List ExtensionValue) → Type 0
    GoodListed o =
        GoodOption 161 refl extensions_in extensions_parts GoodExtensions (list 0x30 extension) extensions_body o

    same : (o : Option (List ExtensionValue)) → listed o ≡ optional_extensions 161 o
    same None = refl
    same (Some es) = refl

    good : (o : Option (List ExtensionValue)) → GoodListed o → GoodList o
    good None h = tt
    good (Some es) h = h

    back : (o : Option (List ExtensionValue)) → GoodList o → GoodListed o
    back None h = tt
    back (Some es) h = h

-- ---- the parts, each apart from those before it

extensions_apart : (us : List ℕ) (o : Option (List ExtensionValue)) (r : List ℕ) → Others 161 us → r ≡ []
    → Apart us (optional_extensions 161 o ++ r)
extensions_apart us None r h l = at_end_apart us r l
extensions_apart us (Some es) r h l = front_apart 161 (extensions_parts es) r us h

abbrev named : Option (List ℕ) × Option (List ExtensionValue) → List ℕ
named p = optional 0xa0 p.0 ++ optional_extensions 161 p.1

named_apart : (us : List ℕ) (p : Option (List ℕ) × Option (List ExtensionValue)) (r : List ℕ) → Others 160 us
    → Others 161 us → r ≡ [] → Apart us (named p ++ r)
named_apart us p r h k l = rw (append_assoc (optional 0xa0 p.0) (optional_extensions 161 p.1) r)
    (optional_apart 160 p.0 (optional_extensions 161 p.1 ++ r) us h (extensions_apart us p.1 r k l))

abbrev numbered : Option (List ℕ) × (Option (List ℕ) × Option (List ExtensionValue)) → List ℕ
numbered p = optional 0x02 p.0 ++ named p.1

numbered_apart : (us : List ℕ) (p : Option (List ℕ) × (Option (List ℕ) × Option (List ExtensionValue))) (r : List ℕ)
    → Others 2 us → Others 160 us
    → Others 161 us → r ≡ [] → Apart us (numbered p ++ r)
numbered_apart us p r g h k l = rw (append_assoc (optional 0x02 p.0) (named p.1) r)
    (optional_apart 2 p.0 (named p.1 ++ r) us g (named_apart us p.1 r h k l))

abbrev ordered : Flag × (Option (List ℕ) × (Option (List ℕ) × Option (List ExtensionValue))) → List ℕ
ordered p = flag p.0 ++ numbered p.1

ordered_apart : (us : List ℕ) (p : Flag × (Option (List ℕ) × (Option (List ℕ) × Option (List ExtensionValue))))
    (r : List ℕ) → Others 1 us
    → Others 2 us → Others 160 us → Others 161 us → r ≡ [] → Apart us (ordered p ++ r)
ordered_apart us p r f g h k l = rw (append_assoc (flag p.0) (numbered p.1) r)
    (flags_apart p.0 (numbered p.1 ++ r) us f (numbered_apart us p.1 r g h k l))

abbrev GoodParts : Parts → Type 0
GoodParts p = (((is_integer p.0 ≡ true) × (is_of (1 ∷ []) p.0 ≡ true)) × HasLength p.0) × (IsOid p.1.0
    × (GoodImprint p.1.1.0 × (IsInteger p.1.1.1.0
    × (((is_generalized p.1.1.1.1.0 ≡ true) × HasLength p.1.1.1.1.0) × (IsAccuracy p.1.1.1.1.1.0
    × (Unit {0} × (IsNumber p.1.1.1.1.1.1.1.0
    × (IfSome p.1.1.1.1.1.1.1.1.0 (λ b. IsOpaque b × HasLength b) × GoodList p.1.1.1.1.1.1.1.1.1))))))))

abbrev spelled : Parts → List ℕ
spelled p = el 0x02 p.0 ++ (el 0x06 p.1.0 ++ (el 0x30 (imprint_parts p.1.1.0)
    ++ (el 0x02 p.1.1.1.0 ++ (el 0x18 p.1.1.1.1.0 ++ (optional_accuracy p.1.1.1.1.1.0 ++ ordered p.1.1.1.1.1.1)))))

parts_reader : IsReader
    (within 0x02 (version_in (1 ∷ [])) then within 0x06 oid_in then within 0x30 imprint_in then within 0x02 integer_in
    then within 0x18 generalized_text_in then maybe 0x30 accuracy_in then flag_at then maybe 0x02 integer_in
    then maybe 0xa0 explicit_opaque_in
    then last 0xa1 extensions_in) spelled GoodParts
    (λ after. one 0x02 (version (1 ∷ []))
    (one 0x06 oid (one 0x30 imprint (one 0x02 integer (one 0x18 generalized (opt 0x30 accuracy
    (opt 0x01 boolean (opt 0x02 integer (opt 0xa0 (opaques One full) (opt 0xa1 (list 0x30 extension) after))))))))))
    Last Nothing
parts_reader =
    let tsa =
    then_reader _ _ _ _ _ (opt_reader 0xa0 refl explicit_opaque_in IsOpaque (opaques One full) explicit_opaque_body)
    _ _ _ _ _ _ extensions_last (λ y r h l. (extensions_apart (160 ∷ []) y r (refl, tt) l).0) in
    let nonce = then_reader _ _ _ _ _
    (opt_reader 0x02 refl integer_in (λ b. is_integer b ≡ true) integer integer_body) _ _ _ _ _ _ tsa
    (λ y r h l. (named_apart (2 ∷ []) y r (refl, tt) (refl, tt) l).0) in
    let ordering = then_reader _ _ _ _ _ flag_reader _ _ _ _ _ _ nonce
    (λ y r h l. (numbered_apart (1 ∷ []) y r (refl, tt) (refl, tt) (refl, tt) l).0) in
    let stated = then_reader _ _ _ _ _ accuracy_reader _ _ _ _ _ _ ordering
    (λ y r h l. (ordered_apart (48 ∷ []) y r (refl, tt) (refl, tt) (refl, tt) (refl, tt) l).0) in
    let time = then_reader _ _ _ _ _
    (within_reader 0x18 refl generalized_text_in Same (λ b. is_generalized b ≡ true) generalized generalized_body)
    _ _ _ _ _ _ stated (λ y r h l. tt) in
    let serial =
    then_reader _ _ _ _ _ (within_reader 0x02 refl integer_in Same (λ b. is_integer b ≡ true) integer integer_body)
    _ _ _ _ _ _ time (λ y r h l. tt) in
    let hash = then_reader _ _ _ _ _ imprint_reader _ _ _ _ _ _ serial (λ y r h l. tt) in
    let policy = then_reader _ _ _ _ _ oid_reader _ _ _ _ _ _ hash (λ y r h l. tt) in
    then_reader _ _ _ _ _
    (within_reader 0x02 refl (version_in (1 ∷ [])) (λ b. b) (λ b. (is_integer b ≡ true) × (is_of (1 ∷ []) b ≡ true))
    (version (1 ∷ [])) (version_body (1 ∷ []))) _ _ _ _ _ _ policy (λ y r h l. tt)

-- ---- a TSTInfo

abbrev parts_of : TstValue → Parts
parts_of v = (
  1 ∷ [],
  (v.policy, (v.imprint, (v.serial, (v.time, (v.accuracy, (v.ordering, (v.nonce, (v.tsa, v.extensions)))))))),
)

tst_body : IsBody tst_in tst_parts (λ v. GoodParts (parts_of v)) tst_info
unfolding tst_in
tst_body =
    made_body tst_from parts_of (λ v. refl) _ spelled GoodParts tst_info (whole_body _ _ _ _ _ _ parts_reader refl refl)
    (λ p h. ap (λ (b : List ℕ). (b, p.1)) (only_version p.0 h.0.0.1))

file_body : IsBody (whole_of (within 0x30 tst_in)) encoding GoodTst (file tst_info)
file_body = alike_body _ encoding _ GoodTst (λ v. refl)
    (λ v h. let g = h.0.1 in record {
      policy = g.0;
      imprint = g.1.0;
      serial = g.1.1.0;
      time = g.1.1.1.0;
      accuracy = g.1.1.1.1.0;
      nonce = g.1.1.1.1.1.1.0;
      tsa = g.1.1.1.1.1.1.1.0;
      extensions = g.1.1.1.1.1.1.1.1;
      size = h.1;
    })
    (λ v h. (
      (
        ((refl, refl), lit< tt),
        (h.policy, (h.imprint, (h.serial, (h.time, (h.accuracy, (tt, (h.nonce, (h.tsa, h.extensions)))))))),
      ),
      h.size,
    )) _ (file tst_info)
    (whole_body _ _ _ _ _ _
    (within_reader 0x30 refl tst_in tst_parts (λ v. GoodParts (parts_of v)) tst_info tst_body) tt tt)

pub tst_takes : (bytes : List ℕ) (v : TstValue) → IsBytes bytes → tst_at bytes ≡ Ok v → EncodesTst bytes v
unfolding tst_at
tst_takes bytes v fits e = let t = file_body.takes (spot 0 bytes) v fits e in (t.1, t.0)

pub tst_again : (bytes : List ℕ) (v : TstValue) → EncodesTst bytes v → tst_at bytes ≡ Ok v
unfolding tst_at
tst_again bytes v h = ap tst_at h.0 ∙ file_body.again v 0 h.1

pub tst_fault : (bytes : List ℕ) (f : Fault) → IsBytes bytes → tst_at bytes ≡ Err f → Faults (file tst_info) bytes f
unfolding tst_at
tst_fault bytes f fits e = file_body.faults (spot 0 bytes) f fits e

pub tst_encodes : (bytes : List ℕ) (v : TstValue) → EncodesTst bytes v → IsEncoding (file tst_info) bytes
tst_encodes bytes v h = subst (IsEncoding (file tst_info)) (sym h.0) (file_body.encodes v h.1)

-- ---- the definitions agree

pub tst_unique : (bytes : List ℕ) (v w : TstValue) → EncodesTst bytes v → EncodesTst bytes w → v ≡ w
tst_unique bytes v w h k = ok_is v w (sym (tst_again bytes v h) ∙ tst_again bytes w k)
