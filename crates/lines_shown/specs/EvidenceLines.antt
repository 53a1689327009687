-- The lines that show an evidence record (RFC 4998), and what is shown for octets that should be one.
use Rattle.std.specs.Prelude.{◌≡◌, ℕ, ◌+◌, List, [], ◌∷◌, ◌++◌, Option, Some, None, length, sum_by, unwrap_or, codes}
use Rattle.std.specs.Fmt.{decimal}
use Rattle.der_core.specs.Values.{AlgorithmValue}
use Rattle.der_oid_text.specs.OidText.{text_of}
use Rattle.cms_types.specs.AttributeValue.{AttributeValue}
use Rattle.cms_types.specs.SignedDataValue.{SignedDataValue, EncodesSignedData}
use Rattle.tsp_types.specs.TstValue.{TstValue, EncodesTst, id_tst_info}
use Rattle.evidence_types.specs.StampValue.{StampValue}
use Rattle.evidence_types.specs.EvidenceValue.{EncryptionValue, EvidenceValue, EncodesEvidence}
use Rattle.lines_shown.specs.Lines.{line}

-- the octets are a token with this content (RFC 3161, 2.4.2), whoever signed it
pub record States (token : List ℕ) (stated : TstValue) : Type 0 where
  pub signed : SignedDataValue
  pub encodes : EncodesSignedData token signed
  pub econtent_type : signed.encapsulated.content_type ≡ id_tst_info
  pub content : List ℕ
  pub present : signed.encapsulated.content ≡ Some content
  pub encodes_stamp : EncodesTst content stated

-- this is what the octets state, or they are no such token
abbrev pub IsStatement : (token : List ℕ) → Option TstValue → Type 0
IsStatement token (Some stated) = States token stated
IsStatement token None = (stated : TstValue) → States token stated → ⊥

-- the algorithm of an archive time-stamp (RFC 4998, 4.1): that of its field, or, where the field is absent, that of its
-- time-stamp's imprint; a dash if that can't be read
abbrev pub algorithm_text : Option AlgorithmValue → (stated : Option TstValue) → List ℕ
algorithm_text (Some named) stated = text_of named.oid
algorithm_text None (Some t) = text_of t.imprint.algorithm.oid
algorithm_text None None = codes "-"

-- the time that its time-stamp states, as its text; a dash if that can't be read
abbrev pub time_text : (stated : Option TstValue) → List ℕ
time_text (Some t) = t.time
time_text None = codes "-"

-- how many hash values there are in lists
abbrev pub values_count : List (List (List ℕ)) → ℕ
values_count lists = sum_by length lists

-- the line of an archive time-stamp: the number of its chain, and its own number in this chain; its algorithm and its
-- time; how many lists of hash values it has, and how many hash values in all
abbrev pub place_text : (chain number : ℕ) → List ℕ
place_text chain number = codes "chain " ++ decimal chain ++ codes " stamp " ++ decimal number

abbrev pub stated_text : Option AlgorithmValue → (stated : Option TstValue) → List ℕ
stated_text named stated = codes " algorithm " ++ algorithm_text named stated ++ codes " time " ++ time_text stated

abbrev pub counts_text : Option (List (List (List ℕ))) → List ℕ
counts_text lists = codes " lists " ++ decimal (length (unwrap_or lists []))
    ++ codes " values " ++ decimal (values_count (unwrap_or lists []))

abbrev pub stamp_line : (chain number : ℕ) → StampValue → (stated : Option TstValue) → List ℕ
stamp_line chain number s stated = place_text chain number ++ stated_text s.algorithm stated ++ counts_text s.lists
    ++ (10 ∷ [])

-- the same, by what its time-stamp states
abbrev pub IsStampLine : (chain number : ℕ) → StampValue → (text : List ℕ) → Type 0
IsStampLine chain number s text = (stated : Option TstValue) × IsStatement s.stamp stated
    × (text ≡ stamp_line chain number s stated)

-- the text has the lines of these, one after another, numbered from this number on
abbrev pub AreLines : {A : Type 0} → (Are : ℕ → A → List ℕ → Type 0) → ℕ → List A → (text : List ℕ) → Type 0
AreLines Are n [] text = text ≡ []
AreLines Are n (x ∷ xs) text = (first others : List ℕ) × Are n x first × AreLines Are (n + 1) xs others
    × (text ≡ first ++ others)

-- the lines of the archive time-stamps of a chain
abbrev pub AreChainLines : (chain : ℕ) → List StampValue → (text : List ℕ) → Type 0
AreChainLines chain stamps text = AreLines (IsStampLine chain) 1 stamps text

-- how many attributes there are, if the field is present
abbrev pub crypto_infos_line : Option (List AttributeValue) → List ℕ
crypto_infos_line None = []
crypto_infos_line (Some attributes) = line (codes "cryptoinfos") (decimal (length attributes))

-- the type of the encryption, if the field is present
abbrev pub encryption_line : Option EncryptionValue → List ℕ
encryption_line None = []
encryption_line (Some e) = line (codes "encryption") (text_of e.id)

-- what stands before the lines of the archive time-stamps
abbrev pub record_lines : EvidenceValue → List ℕ
record_lines v = codes "evidence" ++ (10 ∷ [])
    ++ line (codes "version") (codes "1")
    ++ line (codes "algorithms") (decimal (length v.algorithms))
    ++ crypto_infos_line v.crypto_infos
    ++ encryption_line v.encryption
    ++ line (codes "chains") (decimal (length v.chains))

-- what follows a text is this
abbrev pub Adds : (Is : List ℕ → Type 0) → (before after : List ℕ) → Type 0
Adds Is before after = (added : List ℕ) × Is added × (after ≡ before ++ added)

-- the octets encode an evidence record, and these are its lines
pub record ShowsEvidence (octets text : List ℕ) : Type 0 where
  pub value : EvidenceValue
  pub encoded : EncodesEvidence octets value
  pub lines : Adds (AreLines AreChainLines 1 value.chains) (record_lines value) text
