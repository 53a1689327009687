-- How octets fail that should be a request, a response, a TSTInfo, a certificate, a SignedData or an evidence record.
use Rattle.std.specs.Prelude.{◌≡◌, ◌⊎◌, ℕ, List}
use Rattle.der_core.specs.Grammar.{file}
use Rattle.der_grammar.specs.Table.{request, response, tst_info, certificate, content_info}
use Rattle.tsp_types.specs.RequestValue.{EncodesRequest}
use Rattle.tsp_types.specs.ResponseValue.{EncodesResponse}
use Rattle.tsp_types.specs.TstValue.{EncodesTst}
use Rattle.cert_types.specs.CertificateValue.{EncodesCertificate}
use Rattle.evidence_types.specs.EvidenceTable.{evidence_record}
use Rattle.evidence_types.specs.EvidenceValue.{EncodesEvidence}
use Rattle.cms_types.specs.SignedDataValue.{EncodesSignedData, EncodesAnotherType}
use Rattle.cli_failures.specs.declared.failure.Failure.{Failure}
use Rattle.cli_failures.specs.declared.failure.Failure.TheVariants.{NotSignedData, Memory}
use Rattle.cli_failures.specs.Causes.{IsMalformed}

-- memory ran out for the lines of the value that the octets encode
abbrev pub LacksMemory : {V : Type 0} → (Encodes : List ℕ → V → Type 0) → (octets : List ℕ) → Failure → Type 0
LacksMemory {V} Encodes octets f = (f ≡ Memory) × ((v : V) × Encodes octets v)

-- for a request
abbrev pub ShowsNone : (octets : List ℕ) → Failure → Type 0
ShowsNone octets f = LacksMemory EncodesRequest octets f ⊎ IsMalformed (file request) octets f

-- for a response
abbrev pub ShowsNoResponse : (octets : List ℕ) → Failure → Type 0
ShowsNoResponse octets f = LacksMemory EncodesResponse octets f ⊎ IsMalformed (file response) octets f

-- for a TSTInfo
abbrev pub ShowsNoTst : (octets : List ℕ) → Failure → Type 0
ShowsNoTst octets f = LacksMemory EncodesTst octets f ⊎ IsMalformed (file tst_info) octets f

-- for a certificate
abbrev pub ShowsNoCertificate : (octets : List ℕ) → Failure → Type 0
ShowsNoCertificate octets f = LacksMemory EncodesCertificate octets f ⊎ IsMalformed (file certificate) octets f

-- for an evidence record
abbrev pub ShowsNoEvidence : (octets : List ℕ) → Failure → Type 0
ShowsNoEvidence octets f = LacksMemory EncodesEvidence octets f ⊎ IsMalformed (file evidence_record) octets f

-- for a SignedData: or the octets encode a ContentInfo of another type
abbrev pub ShowsNoSignedData : (octets : List ℕ) → Failure → Type 0
ShowsNoSignedData octets f = LacksMemory EncodesSignedData octets f
    ⊎ (((f ≡ NotSignedData) × EncodesAnotherType octets) ⊎ IsMalformed (file content_info) octets f)
