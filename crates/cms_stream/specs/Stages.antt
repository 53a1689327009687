-- Readings of parts in the order in which a pass goes over them, and what it met on the way.
use Rattle.std.specs.Prelude.{◌≡◌, ℕ, ◌+◌, ◌-◌, ◌⊎◌, true, drop, List, Option, Result, Ok, if◌then◌else◌}
use Rattle.der_core.specs.declared.fault.Fault.{Fault}
use Rattle.der_core.specs.declared.tags.TheConstants.{OBJECT_IDENTIFIER, SEQUENCE, SET}
use Rattle.der_core.specs.Lists.{is_same}
use Rattle.der_core.specs.OpenFaults.{whole_length}
use Rattle.der_core.specs.Reading.{Spot, spot, oid_in}
use Rattle.der_core.specs.Results.{◌>>=◌}
use Rattle.der_grammar.specs.Table.{id_signed_data}
use Rattle.der_core.specs.Values.{AlgorithmValue}
use Rattle.cms_types.specs.SignerValue.{SignerValue}
use Rattle.cms_types.specs.SignedDataValue.{EncapsulatedValue, SignedDataValue, ContentInfoValue, SignedContent}
use Rattle.cms_types.specs.SignedDataValue.{OtherContent}
use Rattle.cms_types.specs.SignedDataReading.{signers_in, signed_data_from}
use Rattle.cms_stream_laws.specs.OpenReading.{OpenSpot, OpenReader, OpenBody, enter_openly, end_openly, within_openly}
use Rattle.cms_stream_laws.specs.OpenReading.{whole_openly, maybe_openly, kept}
use Rattle.cms_stream_laws.specs.OpenContentInfo.{encapsulated_openly, certificates_openly, crls_openly}
use Rattle.cms_stream_laws.specs.OpenContentInfo.{other_content_openly}
use Rattle.cms_stream_laws.specs.Laws.{before_content}
use Rattle.cms_stream.specs.declared.tags.TheConstants.{CERTIFICATES, CONTENT, CRLS}
use Rattle.cms_stream.specs.Passing.{IsTooLong, IsTypeTooLong, outer_in, last_in}

abbrev pub HeadParts : Type 0
HeadParts = List ℕ × (List AlgorithmValue × (EncapsulatedValue × (Option (List (List ℕ)) × Option (List (List ℕ)))))

abbrev pub encapsulated_of : HeadParts → EncapsulatedValue
encapsulated_of parts = parts.1.1.0

-- the parts of a SignedData before its signers
unfoldable pub signed_head_in : OpenReader HeadParts
signed_head_in w =
    before_content w >>= λ x. within_openly SEQUENCE encapsulated_openly x.1
    >>= λ y. maybe_openly CERTIFICATES certificates_openly y.1 >>= λ z. maybe_openly CRLS crls_openly z.1
    >>= λ u. Ok ((x.0.0, (x.0.1, (y.0, (z.0, u.0)))), u.1)

-- the header at the front of a body states that the contents are n octets
abbrev pub Heads : (tag n : ℕ) → OpenSpot → Type 0
Heads tag n w = (x : OpenSpot × OpenSpot) × (enter_openly tag w ≡ Ok x) × (n ≡ x.0.left)

-- the same for the content's type, the first part of the element here
abbrev pub HeadsType : (n : ℕ) → OpenSpot → Type 0
HeadsType n w = (x : OpenSpot × OpenSpot) × (enter_openly SEQUENCE w ≡ Ok x) × Heads OBJECT_IDENTIFIER n x.0

-- the same, if a SignedData begins here
abbrev pub StatesType : (n : ℕ) → OpenSpot → Type 0
StatesType n w = (x : (List ℕ × List AlgorithmValue) × OpenSpot) × (before_content w ≡ Ok x) × HeadsType n x.1

-- the element of the content's type there is longer than the room
abbrev pub IsHeadTooLong : (room : ℕ) → OpenSpot → Type 0
IsHeadTooLong room w =
    (x : (List ℕ × List AlgorithmValue) × OpenSpot) × (before_content w ≡ Ok x) × IsTypeTooLong room x.1

abbrev pub signed_from : HeadParts → List SignerValue → SignedDataValue
signed_from p ss = signed_data_from (p.0, (p.1.0, (p.1.1.0, (p.1.1.1.0, (p.1.1.1.1, ss)))))

-- a SignedData
unfoldable pub signed_in : OpenBody SignedDataValue
signed_in w =
    signed_head_in w >>= λ x. within_openly SET (kept signers_in) x.1 >>= λ y. end_openly y.1
    >>= λ u. Ok (signed_from x.0 y.0)

-- its signers are longer than the room that the content's type leaves
abbrev pub AreSignersTooLong : (room : ℕ) → OpenSpot → Type 0
AreSignersTooLong room w =
    (n : ℕ) × StatesType n w × (x : HeadParts × OpenSpot) × (signed_head_in w ≡ Ok x)
    × IsTooLong (room - whole_length n) SET x.1

-- the content's type is longer than the room, or leaves too little of it
abbrev pub IsSignedTooLong : (room : ℕ) → OpenSpot → Type 0
IsSignedTooLong room w = IsHeadTooLong room w ⊎ AreSignersTooLong room w

-- the same inside the elements that hold it, and at the front of a file
unfoldable pub explicit_signed_in : OpenBody SignedDataValue
explicit_signed_in w = whole_openly (within_openly SEQUENCE signed_in) w

unfoldable pub signed_content_in : OpenBody SignedDataValue
signed_content_in w = whole_openly (within_openly CONTENT explicit_signed_in) w

-- a ContentInfo
unfoldable pub content_in : OpenBody ContentInfoValue
content_in w =
    within_openly OBJECT_IDENTIFIER (kept oid_in) w >>= λ x. if is_same id_signed_data x.0
    then (signed_content_in x.1 >>= λ v. Ok (SignedContent v))
    else (other_content_openly x.1 >>= λ b. Ok (OtherContent x.0 b))

-- something holds inside the element at the front
abbrev pub Inside : (tag : ℕ) → (OpenSpot → Type 0) → OpenSpot → Type 0
Inside tag p w = (x : OpenSpot × OpenSpot) × (enter_openly tag w ≡ Ok x) × p x.0

-- the content is a SignedData, and what is to be kept of it is longer than the room
abbrev pub IsContentTooLong : (room : ℕ) → OpenSpot → Type 0
IsContentTooLong room w =
    (x : List ℕ × OpenSpot) × (within_openly OBJECT_IDENTIFIER (kept oid_in) w ≡ Ok x)
    × (is_same id_signed_data x.0 ≡ true) × Inside CONTENT (Inside SEQUENCE (IsSignedTooLong room)) x.1

-- where a body ends
abbrev pub behind : OpenSpot → Spot
behind w = spot (w.pos + w.left) (drop w.left w.rest)

-- a whole file
unfoldable pub file_in : List ℕ → Result ContentInfoValue Fault
file_in bytes = outer_in bytes >>= λ w. content_in w >>= λ c. last_in (behind w) >>= λ u. Ok c

abbrev pub IsFileTooLong : (room : ℕ) → List ℕ → Type 0
IsFileTooLong room bytes = (w : OpenSpot) × (outer_in bytes ≡ Ok w) × IsContentTooLong room w
