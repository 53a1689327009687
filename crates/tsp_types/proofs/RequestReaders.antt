-- What is read of a request is good and stands there, what is good is read, and faults are those of the grammar.
use Rattle.std.proofs.Common.{◌≡◌, ℕ, Bool, true, false, ◌||◌, eqb, List, [], ◌∷◌, ◌++◌, Option, Ok, Err, refl, sym, ap}
use Rattle.std.proofs.Common.{subst, ◌∙◌, append_assoc, lit<}
use Rattle.std.specs.Prelude.{IfSome}
use Rattle.std.proofs.lemmas.Bool.{eqb-true}
use Rattle.der_core.specs.declared.fault.Fault.{Fault}
use Rattle.der_core.specs.declared.flag.Flag.{Flag}
use Rattle.der_core.specs.Element.{el, IsBytes}
use Rattle.der_core.specs.Contents.{is_integer, is_oid}
use Rattle.der_core.specs.Values.{optional, flag, HasLength, IsOid, IsInteger, algorithm_element, GoodAlgorithm}
use Rattle.der_core.specs.Encoding.{IsEncoding}
use Rattle.der_core.specs.Faults.{Faults}
use Rattle.der_core.specs.Grammar.{one, opt, list, is_of, version, oid, integer, boolean, file}
use Rattle.der_grammar.specs.Table.{imprint, request, extension}
use Rattle.der_core.specs.Reading.{spot, within, maybe, last, ◌then◌, whole_of, any_at, oid_in, integer_in, version_in}
use Rattle.der_core.specs.AlgorithmReading.{algorithm_in}
use Rattle.der_core.specs.Flags.{flag_at}
use Rattle.der_core.proofs.ReadLengths.{ok_is}
use Rattle.der_core.proofs.Fronts.{Apart, Others, optional_apart, flags_apart, at_end_apart}
use Rattle.der_core.proofs.Readers.{Anything, Nothing, IsReader, IsBody, within_reader, then_reader, whole_body}
use Rattle.der_core.proofs.Readers.{made_body}
use Rattle.der_core.proofs.PartReaders.{Always, Last, alike_body, alike_reader, oid_body, integer_body, version_body}
use Rattle.der_core.proofs.PartReaders.{octets_reader, opt_reader, flag_reader, only_version}
use Rattle.der_core.proofs.AlgorithmReader.{algorithm_reader}
use Rattle.cert_types.specs.ExtensionValue.{ExtensionValue, optional_extensions}
use Rattle.cert_types.specs.ExtensionReading.{extensions_in}
use Rattle.cert_types.proofs.ExtensionReaders.{GoodOptional, last_extensions_reader, extensions_apart}
use Rattle.tsp_types.specs.ImprintValue.{ImprintValue, imprint_parts, GoodImprint}
use Rattle.tsp_types.specs.RequestValue.{RequestValue, request_parts, encoding, GoodRequest, EncodesRequest}
use Rattle.tsp_types.specs.ImprintReading.{imprint_from, imprint_in}
use Rattle.tsp_types.specs.RequestReading.{request_from, request_in, request_at}

-- ---- imprints

abbrev ImprintParts : ImprintValue → Type 0
ImprintParts i = GoodAlgorithm i.algorithm × HasLength i.digest

pub imprint_body : IsBody imprint_in imprint_parts ImprintParts imprint
unfolding imprint_in
imprint_body = made_body imprint_from (λ i. (i.algorithm, i.digest)) (λ i. refl)
    (whole_of (within 0x30 algorithm_in then within 0x04 any_at))
    (λ p. algorithm_element p.0 ++ el 0x04 p.1) (λ p. GoodAlgorithm p.0 × HasLength p.1) imprint
    (whole_body _ _ _ _ _ _ (then_reader _ _ _ _ _ algorithm_reader _ _ _ _ _ _ octets_reader (λ y r h l. tt)) tt tt)
    (λ p h. refl)

pub imprint_reader :
    IsReader (within 0x30 imprint_in) (λ i. el 0x30 (imprint_parts i)) GoodImprint (one 0x30 imprint) Always Anything
imprint_reader = alike_reader _ (λ i. el 0x30 (imprint_parts i)) _ GoodImprint (λ i. refl)
    (λ i h. record { algorithm = h.0.0; digest = h.0.1; size = h.1 })
    (λ i h. ((h.algorithm, h.digest), h.size)) _ _ _ Always Anything (λ r l. l)
    (within_reader 0x30 refl imprint_in imprint_parts ImprintParts imprint imprint_body)

-- ---- the parts, each of which shows what it is by its identifier

-- the flag and the extensions are told from what is before them
flag_then_apart : (f : Flag) (o : Option (List ExtensionValue)) (r us : List ℕ) → Others 1 us → Others 160 us
    → r ≡ [] → Apart us ((flag f ++ optional_extensions 160 o) ++ r)
flag_then_apart f o r us h k l = rw (append_assoc (flag f) (optional_extensions 160 o) r)
    (flags_apart f (optional_extensions 160 o ++ r) us h (extensions_apart 160 o r us k (at_end_apart us r l)))

abbrev Parts : Type 0
Parts = List ℕ × (ImprintValue × (Option (List ℕ) × (Option (List ℕ) × (Flag × Option (List ExtensionValue)))))

abbrev GoodParts : Parts → Type 0
GoodParts p = (((is_integer p.0 ≡ true) × (is_of (1 ∷ []) p.0 ≡ true)) × HasLength p.0)
    × (GoodImprint p.1.0
    × (IfSome p.1.1.0 IsOid × (IfSome p.1.1.1.0 IsInteger × (Unit {0} × GoodOptional p.1.1.1.1.1))))

abbrev spelled : Parts → List ℕ
spelled p = el 0x02 p.0 ++ (el 0x30 (imprint_parts p.1.0)
    ++ (optional 0x06 p.1.1.0
    ++ (optional 0x02 p.1.1.1.0 ++ (flag p.1.1.1.1.0 ++ optional_extensions 160 p.1.1.1.1.1))))

parts_reader : IsReader
    (within 0x02 (version_in (1 ∷ [])) then within 0x30 imprint_in then maybe 0x06 oid_in then maybe 0x02 integer_in
    then flag_at then last 0xa0 extensions_in) spelled GoodParts
    (λ after. one 0x02 (version (1 ∷ []))
    (one 0x30 imprint (opt 0x06 oid (opt 0x02 integer (opt 0x01 boolean (opt 0xa0 (list 0x30 extension) after)))))) Last
    Nothing
parts_reader =
    let cert = then_reader _ _ _ _ _ flag_reader _ _ _ _ _ _ (last_extensions_reader 160 refl)
    (λ y r h l. (extensions_apart 160 y r (1 ∷ []) (refl, tt) (at_end_apart (1 ∷ []) r l)).0) in
    let nonce = then_reader _ _ _ _ _
    (opt_reader 0x02 refl integer_in (λ b. is_integer b ≡ true) integer integer_body) _ _ _ _ _ _ cert
    (λ y r h l. (flag_then_apart y.0 y.1 r (2 ∷ []) (refl, tt) (refl, tt) l).0) in
    let policy =
    then_reader _ _ _ _ _ (opt_reader 0x06 refl oid_in (λ b. is_oid b ≡ true) oid oid_body) _ _ _ _ _ _ nonce
    (λ y r h l. rw (append_assoc (optional 0x02 y.0) (flag y.1.0 ++ optional_extensions 160 y.1.1) r)
    (optional_apart 2 y.0 ((flag y.1.0
    ++ optional_extensions 160 y.1.1) ++ r) (6 ∷ []) (refl, tt)
    (flag_then_apart y.1.0 y.1.1 r (6 ∷ []) (refl, tt) (refl, tt) l)).0) in
    let hash = then_reader _ _ _ _ _ imprint_reader _ _ _ _ _ _ policy (λ y r h l. tt) in
    then_reader _ _ _ _ _
    (within_reader 0x02 refl (version_in (1 ∷ [])) (λ b. b) (λ b. (is_integer b ≡ true) × (is_of (1 ∷ []) b ≡ true))
    (version (1 ∷ [])) (version_body (1 ∷ []))) _ _ _ _ _ _ hash (λ y r h l. tt)

-- ---- a request

abbrev RequestParts : RequestValue → Type 0
RequestParts v = GoodParts (1 ∷ [], (v.imprint, (v.policy, (v.nonce, (v.cert_req, v.extensions)))))

request_body : IsBody request_in request_parts RequestParts request
unfolding request_in
request_body = made_body request_from (λ v. (1 ∷ [], (v.imprint, (v.policy, (v.nonce, (v.cert_req, v.extensions))))))
    (λ v. refl) _ spelled GoodParts request
    (whole_body _ _ _ _ _ _ parts_reader refl refl) (λ p h. ap (λ (b : List ℕ). (b, p.1)) (only_version p.0 h.0.0.1))

file_body : IsBody (whole_of (within 0x30 request_in)) encoding GoodRequest (file request)
file_body = alike_body _ encoding _ GoodRequest (λ v. refl)
    (λ v h.
    record { imprint = h.0.1.0; policy = h.0.1.1.0; nonce = h.0.1.1.1.0; extensions = h.0.1.1.1.1.1; size = h.1 })
    (λ v h. ((((refl, refl), lit< tt), (h.imprint, (h.policy, (h.nonce, (tt, h.extensions))))), h.size)) _
    (file request)
    (whole_body _ _ _ _ _ _ (within_reader 0x30 refl request_in request_parts RequestParts request request_body) tt tt)

-- ---- the three laws of reading

pub request_takes : (bytes : List ℕ) (v : RequestValue) → IsBytes bytes → request_at bytes ≡ Ok v
    → EncodesRequest bytes v
unfolding request_at
request_takes bytes v fits e = let t = file_body.takes (spot 0 bytes) v fits e in (t.1, t.0)

pub request_again : (bytes : List ℕ) (v : RequestValue) → EncodesRequest bytes v → request_at bytes ≡ Ok v
unfolding request_at
request_again bytes v h = ap request_at h.0 ∙ file_body.again v 0 h.1

pub request_fault : (bytes : List ℕ) (f : Fault) → IsBytes bytes → request_at bytes ≡ Err f
    → Faults (file request) bytes f
unfolding request_at
request_fault bytes f fits e = file_body.faults (spot 0 bytes) f fits e

-- ---- the definitions agree

pub request_encodes : (bytes : List ℕ) (v : RequestValue) → EncodesRequest bytes v → IsEncoding (file request) bytes
request_encodes bytes v h = subst (IsEncoding (file request)) (sym h.0) (file_body.encodes v h.1)

pub request_unique : (bytes : List ℕ) (v w : RequestValue) → EncodesRequest bytes v → EncodesRequest bytes w → v ≡ w
request_unique bytes v w h k = ok_is v w (sym (request_again bytes v h) ∙ request_again bytes w k)
