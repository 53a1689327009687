-- A signer is read exactly when there is one.
use Rattle.std.proofs.Common.{◌≡◌, ℕ, true, List, [], ◌∷◌, ◌++◌, Ok, Err, refl, sym, ap, ◌∙◌, lit<, inl, inr, ◌⊎◌}
use Rattle.std.specs.Prelude.{IfSome}
use Rattle.std.specs.List.{AllByRecursion}
use Rattle.der_core.specs.declared.fault.Fault.{Fault}
use Rattle.der_core.specs.Element.{el, IsBytes}
use Rattle.der_core.specs.AlgorithmReading.{algorithm_in}
use Rattle.der_core.specs.Contents.{is_integer}
use Rattle.der_core.specs.Form.{Form, full, filled, opaque, part, One}
use Rattle.der_core.specs.Grammar.{one, opt, list, ordered, is_of, integer, version, algorithm}
use Rattle.der_grammar.specs.Table.{signed_attribute, unsigned_attribute, sid, signer_info}
use Rattle.der_core.specs.Reading.{Spot, spot, within, either, ◌then◌, any_at, integer_in, version_in, maybe_filled}
use Rattle.der_core.specs.Reading.{last_filled}
use Rattle.der_core.specs.Values.{HasLength, IsInteger, algorithm_element, GoodAlgorithm}
use Rattle.der_core.proofs.ReadLengths.{ok_is}
use Rattle.der_core.proofs.Readers.{IsReader, IsBody, Anything, Nothing, any_body, within_reader, then_reader}
use Rattle.der_core.proofs.Readers.{whole_body, made_body, named_reader}
use Rattle.der_core.proofs.PartReaders.{Always, alike_body, alike_reader, integer_body, version_body, element_reader}
use Rattle.der_core.proofs.PartReaders.{octets_reader}
use Rattle.der_core.proofs.EitherReader.{either_reader, enc_either, GoodEither}
use Rattle.der_core.proofs.AlgorithmReader.{algorithm_reader}
use Rattle.der_core.proofs.Lists.{many_body}
use Rattle.der_lists.specs.Items.{all_in, IsList}
use Rattle.der_lists.proofs.Items.{ok_items}
use Rattle.cms_types.specs.AttributeValue.{GoodSignedAttributes, GoodUnsignedAttributes, optional_attributes}
use Rattle.cms_types.specs.AttributeReading.{attributes_in, signed_attributes_in}
use Rattle.cms_types.specs.SignerValue.{SidValue, IssuerAndSerial, KeyId, SignerValue, sid_element, IsName, GoodSid}
use Rattle.cms_types.specs.SignerValue.{signer_parts, IsVersion, GoodSigner}
use Rattle.cms_types.specs.SignerReading.{issuer_and_serial_in, sid_from, sid_at, SignerParts, signer_from, signer_in}
use Rattle.cms_types.specs.CmsFaults.{IsSignersFault}
use Rattle.cms_types.specs.SignedDataValue.{signers_parts, EncodesSigners}
use Rattle.cms_types.specs.SignedDataReading.{signers_in}
use Rattle.cms_types.proofs.AttributeReaders.{AtEnd, signed_reader, unsigned_reader}

-- ---- the signer's identifier

abbrev Pair : Type 0
Pair = List ℕ × List ℕ

abbrev pair_parts : Pair → List ℕ
pair_parts p = p.0 ++ el 0x02 p.1

abbrev GoodPair : Pair → Type 0
GoodPair p = IsName p.0 × IsInteger p.1

abbrev named_form : Form
named_form = one 0x30 opaque (one 0x02 integer full)

pair_body : IsBody issuer_and_serial_in pair_parts GoodPair named_form
unfolding issuer_and_serial_in
pair_body = whole_body _ _ _ _ _ _
    (then_reader _ _ _ _ _ (element_reader 0x30) _ _ _ _ _ _ (within_reader 0x02 refl integer_in (λ b. b)
    (λ b. is_integer b ≡ true) integer integer_body) (λ y r h l. tt)) tt tt

abbrev sids : Form → Form
sids after = part One (48 ∷ 128 ∷ []) sid after

abbrev AnyOctets : List ℕ → Type 0
AnyOctets b = Unit {0}

abbrev Same : List ℕ → List ℕ
Same b = b

choice_reader : IsReader (either 0x30 issuer_and_serial_in 128 any_at)
    (enc_either 48 refl issuer_and_serial_in pair_parts GoodPair named_form pair_body 128 refl any_at Same AnyOctets
    opaque any_body sid refl refl refl)
    (GoodEither 48 refl issuer_and_serial_in pair_parts GoodPair named_form pair_body 128 refl any_at Same AnyOctets
    opaque any_body sid refl refl
    refl) sids Always Anything
choice_reader = either_reader 48 refl issuer_and_serial_in pair_parts GoodPair named_form pair_body 128 refl any_at Same
    AnyOctets opaque
    any_body sid refl refl refl

choice_of : SidValue → Pair ⊎ List ℕ
choice_of (IssuerAndSerial issuer serial) = inl (issuer, serial)
choice_of (KeyId id) = inr id

choice_there : (s : SidValue) → sid_from (choice_of s) ≡ s
unfolding choice_of
choice_there (IssuerAndSerial issuer serial) = refl
choice_there (KeyId id) = refl

choice_back : (x : Pair ⊎ List ℕ) → choice_of (sid_from x) ≡ x
unfolding choice_of
choice_back (inl p) = refl
choice_back (inr id) = refl

abbrev spelled : SidValue → List ℕ
spelled s = enc_either 48 refl issuer_and_serial_in pair_parts GoodPair named_form pair_body 128 refl any_at Same
    AnyOctets opaque any_body sid
    refl refl refl (choice_of s)

abbrev GoodChoice : SidValue → Type 0
GoodChoice s = GoodEither 48 refl issuer_and_serial_in pair_parts GoodPair named_form pair_body 128 refl any_at Same
    AnyOctets opaque any_body sid
    refl refl refl (choice_of s)

same_sid : (s : SidValue) → spelled s ≡ sid_element s
unfolding choice_of
same_sid (IssuerAndSerial issuer serial) = refl
same_sid (KeyId id) = refl

good_sid : (s : SidValue) → GoodChoice s → GoodSid s
unfolding choice_of
good_sid (IssuerAndSerial issuer serial) h = (h.0.0, h.0.1, h.1)
good_sid (KeyId id) h = h.1

sid_good : (s : SidValue) → GoodSid s → GoodChoice s
unfolding choice_of
sid_good (IssuerAndSerial issuer serial) h = ((h.0, h.1), h.2)
sid_good (KeyId id) h = (tt, h)

sid_reader : IsReader sid_at sid_element GoodSid sids Always Anything
unfolding sid_at
sid_reader = alike_reader spelled sid_element GoodChoice GoodSid same_sid good_sid sid_good sid_at sids Always Always
    Anything (λ r l. l)
    (named_reader sid_from choice_of choice_there _ _ _ sids Always Anything choice_reader (λ x h. choice_back x))

-- ---- a version

-- at most one octet, so four length octets can state the length
version_small : (versions b : List ℕ) → is_of versions b ≡ true → HasLength b
version_small versions [] h = lit< tt
version_small versions (v ∷ []) h = lit< tt
version_small versions (v ∷ w ∷ ws) h = absurd cc

pub version_reader : (versions : List ℕ)
    → IsReader (within 0x02 (version_in versions)) (λ b. el 0x02 b) (IsVersion versions)
    (one 0x02 (version versions)) Always Anything
version_reader versions = alike_reader (λ b. el 0x02 b) (λ b. el 0x02 b) _ (IsVersion versions) (λ x. refl) (λ x h. h.0)
    (λ x h. (h, version_small versions x h.1)) (within 0x02 (version_in versions))
    (one 0x02 (version versions)) Always Always Anything (λ r l. l)
    (within_reader 0x02 refl (version_in versions) (λ b. b) (IsVersion versions) (version versions)
    (version_body versions))

-- ---- the parts

abbrev all_parts : SignerParts → List ℕ
all_parts p = el 0x02 p.0 ++ (sid_element p.1.0 ++ (algorithm_element p.1.1.0
    ++ (optional_attributes 160 p.1.1.1.0
    ++ (algorithm_element p.1.1.1.1.0 ++ (el 0x04 p.1.1.1.1.1.0 ++ optional_attributes 161 p.1.1.1.1.1.1)))))

abbrev GoodParts : SignerParts → Type 0
GoodParts p =
    IsVersion (1 ∷ 3 ∷ []) p.0 × (GoodSid p.1.0 × (GoodAlgorithm p.1.1.0 × (IfSome p.1.1.1.0 GoodSignedAttributes
    × (GoodAlgorithm p.1.1.1.1.0 × (HasLength p.1.1.1.1.1.0 × IfSome p.1.1.1.1.1.1 GoodUnsignedAttributes)))))

abbrev due_parts : Form → Form
due_parts after =
    one 0x02 (version (1 ∷ 3 ∷ [])) (sids (one 0x30 algorithm (opt 0xa0 (filled (ordered 0x30 signed_attribute))
    (one 0x30 algorithm (one 0x04 opaque (opt 0xa1 (filled (list 0x30 unsigned_attribute)) after))))))

parts_reader : IsReader (within 0x02 (version_in (1 ∷ 3 ∷ [])) then sid_at then within 0x30 algorithm_in
    then maybe_filled 0xa0 signed_attributes_in
    then within 0x30 algorithm_in then within 0x04 any_at then last_filled 0xa1 attributes_in) all_parts GoodParts
    due_parts AtEnd Nothing
parts_reader =
    let signature = then_reader _ _ _ _ _ octets_reader _ _ _ _ _ _ unsigned_reader (λ y r h l. tt) in
    let signing = then_reader _ _ _ _ _ algorithm_reader _ _ _ _ _ _ signature (λ y r h l. tt) in
    let signed = then_reader _ _ _ _ _ signed_reader _ _ _ _ _ _ signing (λ y r h l. refl) in
    let digest = then_reader _ _ _ _ _ algorithm_reader _ _ _ _ _ _ signed (λ y r h l. tt) in
    let name = then_reader _ _ _ _ _ sid_reader _ _ _ _ _ _ digest (λ y r h l. tt) in
    then_reader _ _ _ _ _ (version_reader (1 ∷ 3 ∷ [])) _ _ _ _ _ _ name (λ y r h l. tt)

-- ---- a signer

abbrev tuple : SignerValue → SignerParts
tuple s = (
  s.version,
  (s.sid, (s.digest_algorithm, (s.signed_attributes, (s.signature_algorithm, (s.signature, s.unsigned_attributes))))),
)

abbrev GoodTuple : SignerValue → Type 0
GoodTuple s = GoodParts (tuple s)

signer_body : IsBody signer_in signer_parts GoodTuple signer_info
unfolding signer_in
signer_body = made_body signer_from tuple (λ s. refl) _ all_parts GoodParts signer_info
    (whole_body _ _ _ _ _ _ parts_reader refl refl) (λ p h. refl)

abbrev Listed : SignerValue → Type 0
Listed s = GoodTuple s × HasLength (signer_parts s)

listed_good : (ss : List SignerValue) → AllByRecursion Listed ss → AllByRecursion GoodSigner ss
listed_good [] h = tt
listed_good (s ∷ ss) h = (
  record {
    version = h.0.0.0;
    sid = h.0.0.1.0;
    digest_algorithm = h.0.0.1.1.0;
    signed_attributes = h.0.0.1.1.1.0;
    signature_algorithm = h.0.0.1.1.1.1.0;
    signature = h.0.0.1.1.1.1.1.0;
    unsigned_attributes = h.0.0.1.1.1.1.1.1;
    size = h.0.1;
  },
  listed_good ss h.1,
)

good_listed : (ss : List SignerValue) → AllByRecursion GoodSigner ss → AllByRecursion Listed ss
good_listed [] h = tt
good_listed (s ∷ ss) h = (
  (
    (
      h.0.version,
      (
        h.0.sid,
        (
          h.0.digest_algorithm,
          (h.0.signed_attributes, (h.0.signature_algorithm, (h.0.signature, h.0.unsigned_attributes))),
        ),
      ),
    ),
    h.0.size,
  ),
  good_listed ss h.1,
)

pub signers_body : IsBody signers_in signers_parts (AllByRecursion GoodSigner) (list 0x30 signer_info)
signers_body = alike_body signers_parts signers_parts (AllByRecursion Listed) (AllByRecursion GoodSigner)
    (λ ss. refl) listed_good good_listed signers_in (list 0x30 signer_info)
    (many_body 48 refl signer_in signer_parts GoodTuple signer_info signer_body)

-- ---- signers at a position

pub signers_take : (n : ℕ) (bytes : List ℕ) (ss : List SignerValue) → IsBytes bytes → signers_in (spot n bytes) ≡ Ok ss
    → EncodesSigners bytes ss
signers_take n bytes ss fits e = let t = signers_body.takes (spot n bytes) ss fits e in (t.1, t.0)

pub signers_again : (n : ℕ) (bytes : List ℕ) (ss : List SignerValue) → EncodesSigners bytes ss
    → signers_in (spot n bytes) ≡ Ok ss
signers_again n bytes ss h = ap (λ (b : List ℕ). signers_in (spot n b)) h.0 ∙ signers_body.again ss n h.1

pub signers_fault : (n : ℕ) (bytes : List ℕ) (f : Fault) → IsBytes bytes → signers_in (spot n bytes) ≡ Err f
    → IsSignersFault n bytes f
signers_fault n bytes f fits e = signers_body.faults (spot n bytes) f fits e

pub signers_same : (n : ℕ) (bytes : List ℕ) (ws : List SignerValue) → signers_in (spot n bytes) ≡ Ok ws
    → (ss : List SignerValue)
    → EncodesSigners bytes ss → ws ≡ ss
signers_same n bytes ws e ss h = ok_is ws ss (sym e ∙ signers_again n bytes ss h)

pub no_signers : (n : ℕ) (bytes : List ℕ) (f : Fault) → signers_in (spot n bytes) ≡ Err f → (ss : List SignerValue)
    → EncodesSigners bytes ss → ⊥
no_signers n bytes f e ss h = let z = sym e ∙ signers_again n bytes ss h in cc

-- the signers of a list are those of its octets
pub signers_there : (s : Spot) → IsBytes s.rest → IsList (within 0x30 signer_in) s
    → s.rest ≡ signers_parts (all_in (within 0x30 signer_in) s)
signers_there s fits h = (signers_body.takes s (all_in (within 0x30 signer_in) s) fits (ok_items (signers_in s) h)).1
