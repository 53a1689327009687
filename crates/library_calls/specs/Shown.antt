-- What the calls say that show an input.
use Rattle.std.specs.Prelude.{◌≡◌, ◌≢◌, ◌⊎◌, ℕ, List}
use Rattle.der_core.specs.Form.{Form}
use Rattle.der_core.specs.Grammar.{file}
use Rattle.der_core.specs.ReadFaults.{IsReadFault}
use Rattle.der_core.specs.declared.fault.ReadFault.{ReadFault}
use Rattle.der_core.specs.declared.fault.ReadFault.TheVariants as read
use Rattle.der_grammar.specs.Table as table
use Rattle.cert_types.specs.CertificateValue.{EncodesCertificate}
use Rattle.evidence_types.specs.EvidenceTable.{evidence_record}
use Rattle.evidence_types.specs.EvidenceValue.{EncodesEvidence}
use Rattle.cms_types.specs.CmsFaults.{IsCmsFault}
use Rattle.cms_types.specs.declared.fault.CmsFault.{CmsFault}
use Rattle.cms_types.specs.declared.fault.CmsFault.TheVariants as cms
use Rattle.cms_types.specs.SignedDataValue.{SignedDataValue, EncodesSignedData}
use Rattle.tsp_types.specs.RequestValue.{EncodesRequest}
use Rattle.tsp_types.specs.ResponseValue.{EncodesResponse}
use Rattle.tsp_types.specs.TstValue.{EncodesTst}
use Rattle.lines_shown.specs.CertificateLines.{ShowsCertificate}
use Rattle.lines_shown.specs.EvidenceLines.{ShowsEvidence}
use Rattle.lines_shown.specs.RequestLines.{ShowsRequest}
use Rattle.lines_shown.specs.ResponseLines.{ShowsResponse}
use Rattle.lines_shown.specs.SignedLines.{ShowsSigned}
use Rattle.lines_shown.specs.TstLines.{ShowsTst}
use Rattle.cli_failures.specs.Failures.{failure_of, failure_of_cms}
use Rattle.library_answers.specs.declared.answer.Answer.{Answer}
use Rattle.library_answers.specs.Failures.{IsMade, IsUnmade}

-- the lines of the value that the octets encode; or the fault that they have, and a lack of memory only if they encode
-- one
abbrev pub IsShown : {V : Type 0} → (Shows : (octets lines : List ℕ) → Type 0) → (Encodes : List ℕ → V → Type 0)
    → Form → (octets : List ℕ) (said : Answer) (status : ℕ) (before : List ℕ) (size : ℕ) (after : List ℕ) → Type 0
IsShown {V} Shows Encodes form octets said status before size after =
    ((lines : List ℕ) × Shows octets lines × IsMade lines said status before size after)
    ⊎ ((fault : ReadFault) × IsReadFault form octets fault × (fault ≡ read.OutOfMemory → (v : V) × Encodes octets v)
    × IsUnmade (failure_of fault) said status before size after)

-- the same for a SignedData, which may be a ContentInfo of another type
abbrev pub IsShownSigned : (octets : List ℕ) (said : Answer)
    (status : ℕ) (before : List ℕ) (size : ℕ) (after : List ℕ) → Type 0
IsShownSigned octets said status before size after =
    ((lines : List ℕ) × ShowsSigned octets lines × IsMade lines said status before size after)
    ⊎ ((fault : CmsFault) × IsCmsFault octets fault
    × (fault ≡ cms.OutOfMemory → (v : SignedDataValue) × EncodesSignedData octets v)
    × IsUnmade (failure_of_cms fault) said status before size after)

-- of a request
abbrev pub IsRequestShown : (octets : List ℕ) (said : Answer) (status : ℕ) (before : List ℕ) (size : ℕ) (after : List ℕ)
    → Type 0
IsRequestShown octets said status before size after =
    IsShown ShowsRequest EncodesRequest (file table.request) octets said status before size after

-- of a response
abbrev pub IsResponseShown : (octets : List ℕ) (said : Answer) (status : ℕ) (before : List ℕ) (size : ℕ)
    (after : List ℕ) → Type 0
IsResponseShown octets said status before size after =
    IsShown ShowsResponse EncodesResponse (file table.response) octets said status before size after

-- of a TSTInfo
abbrev pub IsTstShown : (octets : List ℕ) (said : Answer) (status : ℕ) (before : List ℕ) (size : ℕ) (after : List ℕ)
    → Type 0
IsTstShown octets said status before size after =
    IsShown ShowsTst EncodesTst (file table.tst_info) octets said status before size after

-- of a certificate
abbrev pub IsCertificateShown : (octets : List ℕ) (said : Answer) (status : ℕ) (before : List ℕ) (size : ℕ)
    (after : List ℕ) → Type 0
IsCertificateShown octets said status before size after =
    IsShown ShowsCertificate EncodesCertificate (file table.certificate) octets said status before size after

-- of an evidence record
abbrev pub IsEvidenceShown : (octets : List ℕ) (said : Answer) (status : ℕ) (before : List ℕ) (size : ℕ)
    (after : List ℕ) → Type 0
IsEvidenceShown octets said status before size after =
    IsShown ShowsEvidence EncodesEvidence (file evidence_record) octets said status before size after

-- a number of no type
abbrev pub IsNoType : ℕ → Type 0
IsNoType type = (type ≢ 1) × (type ≢ 2) × (type ≢ 3) × (type ≢ 4) × (type ≢ 5) × (type ≢ 6)
