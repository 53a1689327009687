-- What is read of an evidence record is good and stands there, what is good is read, and faults are those of the
-- grammar.
use Rattle.std.proofs.Common.{◌≡◌, ◌≢◌, ℕ, Bool, true, false, ◌||◌, eqb, List, [], ◌∷◌, ◌++◌, Option, Some, None, Ok}
use Rattle.std.proofs.Common.{Err, refl, sym, ap, subst, ◌∙◌}
use Rattle.std.specs.Prelude.{IfSome}
use Rattle.std.specs.List.{AllByRecursion}
use Rattle.std.proofs.lemmas.Bool.{eqb-true}
use Rattle.der_core.specs.declared.fault.Fault.{Fault}
use Rattle.der_core.specs.Element.{el, IsBytes}
use Rattle.der_core.specs.AlgorithmReading.{algorithm_in}
use Rattle.der_core.specs.Encoding.{IsEncoding}
use Rattle.der_core.specs.Faults.{Faults}
use Rattle.der_core.specs.Form.{filled}
use Rattle.der_core.specs.Grammar.{one, opt, list, is_of, version, algorithm, file}
use Rattle.der_core.specs.Reading.{Spot, spot, within, maybe, maybe_filled, ◌then◌, whole_of, oid_in, opaque_at}
use Rattle.der_core.specs.Reading.{version_in, any_at}
use Rattle.der_core.specs.Values.{HasLength, IsOid, IsOpaque, optional_whole, AlgorithmValue, algorithm_parts}
use Rattle.der_core.specs.Values.{GoodAlgorithm}
use Rattle.der_core.proofs.AlgorithmReader.{AlgorithmParts, algorithm_body}
use Rattle.der_core.proofs.Lists.{many_body}
use Rattle.der_core.proofs.PartReaders.{Always, Not, alike_body, alike_reader, oid_reader, opaque_reader}
use Rattle.der_core.proofs.PartReaders.{only_version}
use Rattle.der_core.proofs.ReadLengths.{ok_is}
use Rattle.der_core.proofs.Readers.{IsReader, IsBody, Anything, within_reader, maybe_reader, then_reader, whole_body}
use Rattle.der_core.proofs.Readers.{made_body, enc_option, GoodOption}
use Rattle.der_grammar.specs.Table.{unsigned_attribute}
use Rattle.der_lists.specs.Items.{all_in, IsList}
use Rattle.der_lists.proofs.Items.{ok_items}
use Rattle.cms_types.specs.AttributeValue.{GoodUnsignedAttributes, optional_attributes}
use Rattle.cms_types.specs.AttributeReading.{attributes_in}
use Rattle.cms_types.specs.SignedDataValue.{algorithms_parts}
use Rattle.cms_types.specs.SignedDataReading.{algorithms_in}
use Rattle.cms_types.specs.SignerValue.{IsVersion}
use Rattle.cms_types.proofs.SignerReaders.{version_reader}
use Rattle.evidence_types.specs.EvidenceTable.{archive_time_stamp, chain, encryption_info, evidence_record}
use Rattle.evidence_types.specs.FilledReading.{within_filled}
use Rattle.evidence_types.specs.StampValue.{StampValue, stamp_parts, GoodStamp, hash_list_parts}
use Rattle.evidence_types.specs.StampReading.{stamp_in, values_in}
use Rattle.evidence_types.specs.EvidenceValue.{chain_parts, GoodChain, chains_parts, GoodChains, EncryptionValue}
use Rattle.evidence_types.specs.EvidenceValue.{encryption_parts, GoodEncryption, optional_encryption, EvidenceValue}
use Rattle.evidence_types.specs.EvidenceValue.{evidence_parts, encoding, GoodEvidence, EncodesEvidence}
use Rattle.evidence_types.specs.EvidenceReading.{stamps_in, chains_in, encryption_from, encryption_in, EvidenceParts}
use Rattle.evidence_types.specs.EvidenceReading.{evidence_from, evidence_in, evidence_at}
use Rattle.evidence_types.proofs.FilledLists.{some_octets, Inside, filled_many_body, within_filled_reader}
use Rattle.evidence_types.proofs.AttributeParts.{list_reader}
use Rattle.evidence_types.proofs.StampReaders.{GoodTuple, stamp_body, values_body}

-- ---- the algorithms

abbrev ListedAlgorithm : AlgorithmValue → Type 0
ListedAlgorithm a = AlgorithmParts a × HasLength (algorithm_parts a)

algorithms_to : (xs : List AlgorithmValue) → AllByRecursion ListedAlgorithm xs → AllByRecursion GoodAlgorithm xs
algorithms_to [] h = tt
algorithms_to (a ∷ xs) h = (record { oid = h.0.0.0; parameters = h.0.0.1; size = h.0.1 }, algorithms_to xs h.1)

algorithms_from : (xs : List AlgorithmValue) → AllByRecursion GoodAlgorithm xs → AllByRecursion ListedAlgorithm xs
algorithms_from [] h = tt
algorithms_from (a ∷ xs) h = (((h.0.oid, h.0.parameters), h.0.size), algorithms_from xs h.1)

algorithms_body : IsBody algorithms_in algorithms_parts (AllByRecursion GoodAlgorithm) (list 0x30 algorithm)
algorithms_body =
    alike_body algorithms_parts algorithms_parts (AllByRecursion ListedAlgorithm) (AllByRecursion GoodAlgorithm)
    (λ xs. refl) algorithms_to algorithms_from algorithms_in (list 0x30 algorithm)
    (many_body 48 refl algorithm_in algorithm_parts AlgorithmParts algorithm algorithm_body)

-- ---- time-stamps

abbrev ListedStamp : StampValue → Type 0
ListedStamp s = GoodTuple s × HasLength (stamp_parts s)

stamps_to : (ss : List StampValue) → AllByRecursion ListedStamp ss → AllByRecursion GoodStamp ss
stamps_to [] h = tt
stamps_to (s ∷ ss) h = (
  record {
    algorithm = h.0.0.0;
    attributes = h.0.0.1.0;
    lists = h.0.0.1.1.0;
    stamp = h.0.0.1.1.1;
    size = h.0.1;
  },
  stamps_to ss h.1,
)

stamps_from : (ss : List StampValue) → AllByRecursion GoodStamp ss → AllByRecursion ListedStamp ss
stamps_from [] h = tt
stamps_from (s ∷ ss) h =
    (((h.0.algorithm, (h.0.attributes, (h.0.lists, h.0.stamp))), h.0.size), stamps_from ss h.1)

pub stamps_body : IsBody stamps_in chain_parts (AllByRecursion GoodStamp) (list 0x30 archive_time_stamp)
stamps_body = alike_body chain_parts chain_parts (AllByRecursion ListedStamp) (AllByRecursion GoodStamp)
    (λ ss. refl) stamps_to stamps_from stamps_in (list 0x30 archive_time_stamp)
    (many_body 48 refl stamp_in stamp_parts GoodTuple archive_time_stamp stamp_body)

-- ---- chains

abbrev ListedChain : List StampValue → Type 0
ListedChain ss =
    Inside 48 refl stamps_in chain_parts (AllByRecursion GoodStamp) (list 0x30 archive_time_stamp) stamps_body refl ss

some_stamps : (ss : List StampValue) → (chain_parts ss ≡ [] → ⊥) → ss ≢ []
some_stamps ss some e = some (ap chain_parts e)

chains_to : (cs : List (List StampValue)) → AllByRecursion ListedChain cs → AllByRecursion GoodChain cs
chains_to [] h = tt
chains_to (c ∷ cs) h = (record { each = h.0.0.0; some = some_stamps c h.0.1; size = h.0.0.1 }, chains_to cs h.1)

chains_from : (cs : List (List StampValue)) → AllByRecursion GoodChain cs → AllByRecursion ListedChain cs
chains_from [] h = tt
chains_from (c ∷ cs) h = (((h.0.each, h.0.size), some_octets 48 stamp_parts c h.0.some), chains_from cs h.1)

pub chains_body : IsBody chains_in chains_parts (AllByRecursion GoodChain) (list 0x30 chain)
chains_body = alike_body chains_parts chains_parts (AllByRecursion ListedChain) (AllByRecursion GoodChain)
    (λ cs. refl) chains_to chains_from chains_in (list 0x30 chain)
    (filled_many_body 48 refl stamps_in chain_parts (AllByRecursion GoodStamp) (list 0x30 archive_time_stamp)
    stamps_body refl)

abbrev SomeChains : List (List StampValue) → Type 0
SomeChains cs = Inside 48 refl chains_in chains_parts (AllByRecursion GoodChain) (list 0x30 chain) chains_body refl cs

some_chains : (cs : List (List StampValue)) → (chains_parts cs ≡ [] → ⊥) → cs ≢ []
some_chains cs some e = some (ap chains_parts e)

chains_reader : IsReader (within_filled 0x30 chains_in) (λ cs. el 0x30 (chains_parts cs)) GoodChains
    (λ after. one 0x30 (filled (list 0x30 chain)) after) Always Anything
chains_reader = alike_reader (λ cs. el 0x30 (chains_parts cs)) (λ cs. el 0x30 (chains_parts cs)) SomeChains GoodChains
    (λ cs. refl) (λ cs h. record { each = h.0.0; some = some_chains cs h.1; size = h.0.1 })
    (λ cs h. ((h.each, h.size), some_octets 48 chain_parts cs h.some))
    (within_filled 0x30 chains_in) (λ after. one 0x30 (filled (list 0x30 chain)) after) Always Always Anything
    (λ r l. l)
    (within_filled_reader 48 refl chains_in chains_parts (AllByRecursion GoodChain) (list 0x30 chain) chains_body refl)

-- ---- the encryption, which may be absent

abbrev EncryptionGiven : EncryptionValue → Type 0
EncryptionGiven e = IsOid e.id × IfSome e.value IsOpaque

encryption_body : IsBody encryption_in encryption_parts EncryptionGiven encryption_info
unfolding encryption_in
encryption_body =
    made_body encryption_from (λ e. (e.id, e.value)) (λ e. refl) (whole_of (within 0x06 oid_in then opaque_at))
    (λ p. el 0x06 p.0 ++ optional_whole p.1) (λ p. IsOid p.0 × IfSome p.1 IsOpaque) encryption_info
    (whole_body _ _ _ _ _ _ (then_reader _ _ _ _ _ oid_reader _ _ _ _ _ _ opaque_reader (λ y r h l. tt)) refl tt)
    (λ p h. refl)

abbrev Encrypted : Option EncryptionValue → Type 0
Encrypted o = GoodOption 161 refl encryption_in encryption_parts EncryptionGiven encryption_info encryption_body o

same_encryption : (o : Option EncryptionValue)
    → enc_option 161 refl encryption_in encryption_parts EncryptionGiven encryption_info encryption_body o
    ≡ optional_encryption 161 o
same_encryption None = refl
same_encryption (Some e) = refl

encryption_good : (o : Option EncryptionValue) → Encrypted o → IfSome o GoodEncryption
encryption_good None h = tt
encryption_good (Some e) h = record { id = h.0.0; value = h.0.1; size = h.1 }

good_encryption : (o : Option EncryptionValue) → IfSome o GoodEncryption → Encrypted o
good_encryption None h = tt
good_encryption (Some e) h = ((h.id, h.value), h.size)

encryption_reader : IsReader (maybe 0xa1 encryption_in) (optional_encryption 161) (λ o. IfSome o GoodEncryption)
    (opt 0xa1 encryption_info) (Not 0xa1) Anything
encryption_reader = alike_reader _ (optional_encryption 161) Encrypted
    (λ o. IfSome o GoodEncryption) same_encryption encryption_good good_encryption
    (maybe 0xa1 encryption_in) (opt 0xa1 encryption_info) (Not 0xa1) (Not 0xa1) Anything (λ r l. l)
    (maybe_reader 161 refl encryption_in encryption_parts EncryptionGiven encryption_info encryption_body)

-- ---- the parts, each apart from those before it

encryption_front : (o : Option EncryptionValue) (cs : List (List StampValue)) (r : List ℕ)
    → Not 0xa0 ((optional_encryption 161 o ++ el 0x30 (chains_parts cs)) ++ r)
encryption_front None cs r = refl
encryption_front (Some e) cs r = refl

abbrev spelled : EvidenceParts → List ℕ
spelled p = el 0x02 p.0 ++ (el 0x30 (algorithms_parts p.1.0)
    ++ (optional_attributes 160 p.1.1.0 ++ (optional_encryption 161 p.1.1.1.0 ++ el 0x30 (chains_parts p.1.1.1.1))))

abbrev GoodParts : EvidenceParts → Type 0
GoodParts p = IsVersion (1 ∷ []) p.0
    × ((AllByRecursion GoodAlgorithm p.1.0 × HasLength (algorithms_parts p.1.0))
    × (IfSome p.1.1.0 GoodUnsignedAttributes × (IfSome p.1.1.1.0 GoodEncryption × GoodChains p.1.1.1.1)))

parts_reader : IsReader
    (within 0x02 (version_in (1 ∷ [])) then within 0x30 algorithms_in then maybe_filled 0xa0 attributes_in
    then maybe 0xa1 encryption_in then within_filled 0x30 chains_in) spelled GoodParts
    (λ after. one 0x02 (version (1 ∷ [])) (one 0x30 (list 0x30 algorithm)
    (opt 0xa0 (filled (list 0x30 unsigned_attribute)) (opt 0xa1 encryption_info
    (one 0x30 (filled (list 0x30 chain)) after)))))
    Always Anything
parts_reader =
    let encrypted = then_reader _ _ _ _ _ encryption_reader _ _ _ _ _ _ chains_reader (λ y r h l. refl) in
    let described = then_reader _ _ _ _ _ (list_reader 160 refl) _ _ _ _ _ _ encrypted
    (λ y r h l. encryption_front y.0 y.1 r) in
    let digests = then_reader _ _ _ _ _
    (within_reader 0x30 refl algorithms_in algorithms_parts (AllByRecursion GoodAlgorithm) (list 0x30 algorithm)
    algorithms_body) _ _ _ _ _ _ described (λ y r h l. tt) in
    then_reader _ _ _ _ _ (version_reader (1 ∷ [])) _ _ _ _ _ _ digests (λ y r h l. tt)

-- ---- an evidence record

abbrev parts_of : EvidenceValue → EvidenceParts
parts_of v = (1 ∷ [], (v.algorithms, (v.crypto_infos, (v.encryption, v.chains))))

evidence_body : IsBody evidence_in evidence_parts (λ v. GoodParts (parts_of v)) evidence_record
unfolding evidence_in
evidence_body =
    made_body evidence_from parts_of (λ v. refl) _ spelled GoodParts evidence_record
    (whole_body _ _ _ _ _ _ parts_reader tt tt)
    (λ p h. ap (λ (b : List ℕ). (b, p.1)) (only_version p.0 h.0.1))

file_body : IsBody (whole_of (within 0x30 evidence_in)) encoding GoodEvidence (file evidence_record)
file_body = alike_body _ encoding _ GoodEvidence (λ v. refl)
    (λ v h. let g = h.0.1 in record {
      algorithms = g.0.0;
      algorithms_size = g.0.1;
      crypto_infos = g.1.0;
      encryption = g.1.1.0;
      chains = g.1.1.1;
      size = h.1;
    })
    (λ v h. (
      ((refl, refl), ((h.algorithms, h.algorithms_size), (h.crypto_infos, (h.encryption, h.chains)))),
      h.size,
    )) _ (file evidence_record)
    (whole_body _ _ _ _ _ _
    (within_reader 0x30 refl evidence_in evidence_parts (λ v. GoodParts (parts_of v)) evidence_record evidence_body)
    tt tt)

pub evidence_takes : (bytes : List ℕ) (v : EvidenceValue) → IsBytes bytes → evidence_at bytes ≡ Ok v
    → EncodesEvidence bytes v
unfolding evidence_at
evidence_takes bytes v fits e = let t = file_body.takes (spot 0 bytes) v fits e in (t.1, t.0)

pub evidence_again : (bytes : List ℕ) (v : EvidenceValue) → EncodesEvidence bytes v → evidence_at bytes ≡ Ok v
unfolding evidence_at
evidence_again bytes v h = ap evidence_at h.0 ∙ file_body.again v 0 h.1

pub evidence_fault : (bytes : List ℕ) (f : Fault) → IsBytes bytes → evidence_at bytes ≡ Err f
    → Faults (file evidence_record) bytes f
unfolding evidence_at
evidence_fault bytes f fits e = file_body.faults (spot 0 bytes) f fits e

-- ---- the definitions agree

pub evidence_encodes : (bytes : List ℕ) (v : EvidenceValue) → EncodesEvidence bytes v
    → IsEncoding (file evidence_record) bytes
evidence_encodes bytes v h = subst (IsEncoding (file evidence_record)) (sym h.0) (file_body.encodes v h.1)

pub evidence_unique : (bytes : List ℕ) (v w : EvidenceValue) → EncodesEvidence bytes v → EncodesEvidence bytes w
    → v ≡ w
evidence_unique bytes v w h k = ok_is v w (sym (evidence_again bytes v h) ∙ evidence_again bytes w k)

-- ---- lists that were read

-- the hash values of a list are those of its octets
pub values_there : (s : Spot) → IsBytes s.rest → IsList (within 0x04 any_at) s
    → s.rest ≡ hash_list_parts (all_in (within 0x04 any_at) s)
values_there s fits h =
    (values_body.takes s (all_in (within 0x04 any_at) s) fits (ok_items (values_in s) h)).1

-- and the time-stamps of a chain
pub stamps_there : (s : Spot) → IsBytes s.rest → IsList (within 0x30 stamp_in) s
    → (s.rest ≡ chain_parts (all_in (within 0x30 stamp_in) s))
    × AllByRecursion GoodStamp (all_in (within 0x30 stamp_in) s)
stamps_there s fits h =
    let t = stamps_body.takes s (all_in (within 0x30 stamp_in) s) fits (ok_items (stamps_in s) h) in (t.1, t.0)

-- and the chains of a sequence
pub chains_there : (s : Spot) → IsBytes s.rest → IsList (within_filled 0x30 stamps_in) s
    → (s.rest ≡ chains_parts (all_in (within_filled 0x30 stamps_in) s))
    × AllByRecursion GoodChain (all_in (within_filled 0x30 stamps_in) s)
chains_there s fits h =
    let t = chains_body.takes s (all_in (within_filled 0x30 stamps_in) s) fits (ok_items (chains_in s) h) in
    (t.1, t.0)
