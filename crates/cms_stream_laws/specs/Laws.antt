-- How the reading of a file from the left, without knowing its end, relates to the reading of a slice.
use Rattle.std.specs.Prelude.{take, ◌≡◌, ℕ, ◌+◌, ◌<◌, ◌⊎◌, true, false, List, [], ◌∷◌, ◌++◌, length, Option, Ok, Err}
use Rattle.der_core.specs.declared.fault.Fault.{Fault}
use Rattle.der_core.specs.declared.tags.TheConstants.{INTEGER, OBJECT_IDENTIFIER, SEQUENCE, SET}
use Rattle.der_core.specs.Element.{IsBytes}
use Rattle.der_core.specs.Faults.{Faults}
use Rattle.der_core.specs.Lists.{is_same}
use Rattle.der_core.specs.OpenFaults.{FaultsOpenly, whole_length, StatesAt}
use Rattle.der_core.specs.Values.{AlgorithmValue}
use Rattle.der_core.specs.Grammar.{file}
use Rattle.der_grammar.specs.Table.{content_info, encap, signer_infos, id_signed_data}
use Rattle.der_core.specs.Reading.{is_other, oid_in, version_in}
use Rattle.cms_types.specs.SignedDataReading.{content_info_at}
use Rattle.cms_types.specs.SignedDataValue.{EncapsulatedValue, ContentInfoValue, EncodesContentInfo}
use Rattle.cms_stream_laws.specs.Tags.{CERTIFICATES, CONTENT, CRLS}
use Rattle.cms_stream_laws.specs.OpenReading.{OpenSpot, open_spot, length_in, heading, lost, OpenReader, enter_openly}
use Rattle.cms_stream_laws.specs.OpenReading.{within_openly, ◌then_openly◌, maybe_openly, kept}
use Rattle.cms_stream_laws.specs.OpenContentInfo.{algorithms_openly, encapsulated_openly, certificates_openly}
use Rattle.cms_stream_laws.specs.OpenContentInfo.{crls_openly}
use Rattle.cms_stream_laws.specs.OpenContentInfo.{contents_of, file_openly}

-- the header of the outermost element is complete, and states more octets than there are
pub record IsCutShort (bytes : List ℕ) (l : ℕ) : Type 0 where
  pub sequence : is_other SEQUENCE bytes ≡ false
  pub states : length_in (open_spot 0 0 bytes) bytes ≡ Ok l
  pub short : length bytes < heading l + l

-- these octets are what is missing
abbrev pub Completes : List ℕ → ℕ → List ℕ → Type 0
Completes bytes l more = IsBytes more × (length bytes + length more ≡ heading l + l)

-- Whole files are read alike. For a file that is cut short, the reading of a slice refuses it at its front; the other
-- reading stops at the cut, or at a fault that the reading of a slice gives for all values of the missing octets.
pub record CutAlike (bytes : List ℕ) : Type 0 where
  pub size : ℕ
  pub cut : IsCutShort bytes size
  pub slice : content_info_at bytes ≡ Err lost
  pub fault : Fault
  pub stops : file_openly bytes ≡ Err fault
  pub always : (more : List ℕ) → Completes bytes size more
      → (fault ≡ lost) ⊎ (content_info_at (bytes ++ more) ≡ Err fault)

abbrev pub FilesAreReadAlike : Type 0
FilesAreReadAlike = (bytes : List ℕ) → IsBytes bytes → (file_openly bytes ≡ content_info_at bytes) ⊎ CutAlike bytes

-- A fault of the reading that doesn't know the end is a fault of the file, or of each whole file that it begins.
abbrev pub FaultsAreOfFiles : Type 0
FaultsAreOfFiles = (bytes : List ℕ) (f : Fault) → IsBytes bytes → file_openly bytes ≡ Err f
    → Faults (file content_info) bytes f
    ⊎ ((l : ℕ) × IsCutShort bytes l
    × ((more : List ℕ) → Completes bytes l more
    → Faults (file content_info) bytes f ⊎ Faults (file content_info) (bytes ++ more) f))

-- A fault of the reading that doesn't know the end holds openly of the file: it is one of the octets, or it is met at
-- an open place of them.
abbrev pub FaultsHoldOpenly : Type 0
FaultsHoldOpenly =
    (bytes : List ℕ) (f : Fault) → IsBytes bytes → file_openly bytes ≡ Err f → FaultsOpenly (file content_info) bytes f

-- For good octets, the reading that doesn't know the end gives the value that they encode.
abbrev pub GoodFilesAreRead : Type 0
GoodFilesAreRead =
    (bytes : List ℕ) (c : ContentInfoValue) → IsBytes bytes → EncodesContentInfo bytes c → file_openly bytes ≡ Ok c

-- A value that it gives is encoded by the octets.
abbrev pub ReadFilesAreGood : Type 0
ReadFilesAreGood =
    (bytes : List ℕ) (c : ContentInfoValue) → IsBytes bytes → file_openly bytes ≡ Ok c → EncodesContentInfo bytes c

-- The first six octets of a body decide what the header of its first element states, and how it is malformed.
abbrev pub SixOctetsDecide : Type 0
SixOctetsDecide = (w : OpenSpot) (xs : List ℕ) → length_in w (take 6 xs) ≡ length_in w xs

-- a pass over the file has come to the contents of its SignedData: the headers before it are complete, and it is a
-- SignedData
pub record IsAtSignedData (bytes : List ℕ) (w : OpenSpot) : Type 0 where
  pub size : ℕ
  pub sequence : is_other SEQUENCE bytes ≡ false
  pub states : length_in (open_spot 0 0 bytes) bytes ≡ Ok size
  pub content_type : List ℕ
  pub behind : OpenSpot
  pub first : within_openly OBJECT_IDENTIFIER (kept oid_in) (contents_of bytes size) ≡ Ok (content_type, behind)
  pub signed : is_same id_signed_data content_type ≡ true
  pub outer : OpenSpot × OpenSpot
  pub explicit : enter_openly CONTENT behind ≡ Ok outer
  pub inner : OpenSpot × OpenSpot
  pub enters : enter_openly SEQUENCE outer.0 ≡ Ok inner
  pub is : w ≡ inner.0

-- the parts before the content, and those before the signers
abbrev pub before_content : OpenReader (List ℕ × List AlgorithmValue)
before_content w =
    (within_openly INTEGER (kept (version_in (1 ∷ 3 ∷ 4 ∷ 5 ∷ []))) then_openly within_openly SET algorithms_openly) w

abbrev pub before_signers : OpenReader
    (List ℕ × (List AlgorithmValue × (EncapsulatedValue × (Option (List (List ℕ)) × Option (List (List ℕ))))))
before_signers w =
    (within_openly INTEGER (kept (version_in (1 ∷ 3 ∷ 4 ∷ 5 ∷ []))) then_openly within_openly SET algorithms_openly
    then_openly within_openly SEQUENCE encapsulated_openly
    then_openly maybe_openly CERTIFICATES certificates_openly then_openly maybe_openly CRLS crls_openly) w

-- The header that such a pass meets of the content's type is stated at an open place of the file, and so is that of the
-- signers.
abbrev pub ContentTypeIsStated : Type 0
ContentTypeIsStated =
    (bytes : List ℕ) (w v : OpenSpot) (p : List ℕ × List AlgorithmValue) (x y : OpenSpot × OpenSpot) → IsBytes bytes
    → IsAtSignedData bytes w → before_content w ≡ Ok (p, v) → enter_openly SEQUENCE v ≡ Ok x
    → enter_openly OBJECT_IDENTIFIER x.0 ≡ Ok y
    → StatesAt (file content_info) bytes encap (whole_length y.0.left)

abbrev pub SignersAreStated : Type 0
SignersAreStated =
    (bytes : List ℕ) (w v : OpenSpot)
    (p : List ℕ × (List AlgorithmValue × (EncapsulatedValue × (Option (List (List ℕ)) × Option (List (List ℕ))))))
    (y : OpenSpot × OpenSpot) → IsBytes bytes → IsAtSignedData bytes w
    → before_signers w ≡ Ok (p, v) → enter_openly SET v ≡ Ok y
    → StatesAt (file content_info) bytes signer_infos (whole_length y.0.left)
