-- How octets fail that are to be a request, a response, a TSTInfo, a certificate, a SignedData or an evidence record.
use Rattle.std.proofs.Common.{◌≡◌, ℕ, List, refl, inl, inr}
use Rattle.der_core.specs.declared.fault.ReadFault.{ReadFault}
use Rattle.der_core.specs.declared.fault.ReadFault.TheVariants as read
use Rattle.der_core.specs.ReadFaults.{IsReadFault}
use Rattle.der_core.specs.Grammar.{file}
use Rattle.der_grammar.specs.Table.{request, response, tst_info, certificate}
use Rattle.tsp_types.specs.RequestValue.{RequestValue, EncodesRequest}
use Rattle.tsp_types.specs.ResponseValue.{ResponseValue, EncodesResponse}
use Rattle.tsp_types.specs.TstValue.{TstValue, EncodesTst}
use Rattle.cert_types.specs.CertificateValue.{CertificateValue, EncodesCertificate}
use Rattle.evidence_types.specs.EvidenceTable.{evidence_record}
use Rattle.evidence_types.specs.EvidenceValue.{EvidenceValue, EncodesEvidence}
use Rattle.cms_types.specs.SignedDataValue.{SignedDataValue, EncodesSignedData}
use Rattle.cms_types.specs.CmsFaults.{IsCmsFault}
use Rattle.cms_types.specs.declared.fault.CmsFault.{CmsFault}
use Rattle.cms_types.specs.declared.fault.CmsFault.TheVariants as cms
use Rattle.cli_failures.specs.Failures.{failure_of, failure_of_cms}
use Rattle.cli_commands.specs.Showing.{ShowsNone, ShowsNoResponse, ShowsNoTst, ShowsNoCertificate, ShowsNoSignedData}
use Rattle.cli_commands.specs.Showing.{ShowsNoEvidence}

pub no_request : (octets : List ℕ) (e : ReadFault) → IsReadFault (file request) octets e
    → (e ≡ read.OutOfMemory → (v : RequestValue) × EncodesRequest octets v) → ShowsNone octets (failure_of e)
no_request octets (read.Malformed fault) h m = inr (record { fault = fault; malformed = refl; found = h })
no_request octets read.OutOfMemory h m = inl (refl, m refl)

pub no_response : (octets : List ℕ) (e : ReadFault) → IsReadFault (file response) octets e
    → (e ≡ read.OutOfMemory → (v : ResponseValue) × EncodesResponse octets v) → ShowsNoResponse octets (failure_of e)
no_response octets (read.Malformed fault) h m = inr (record { fault = fault; malformed = refl; found = h })
no_response octets read.OutOfMemory h m = inl (refl, m refl)

pub no_tst : (octets : List ℕ) (e : ReadFault) → IsReadFault (file tst_info) octets e
    → (e ≡ read.OutOfMemory → (v : TstValue) × EncodesTst octets v) → ShowsNoTst octets (failure_of e)
no_tst octets (read.Malformed fault) h m = inr (record { fault = fault; malformed = refl; found = h })
no_tst octets read.OutOfMemory h m = inl (refl, m refl)

pub no_certificate : (octets : List ℕ) (e : ReadFault) → IsReadFault (file certificate) octets e
    → (e ≡ read.OutOfMemory → (v : CertificateValue) × EncodesCertificate octets v)
    → ShowsNoCertificate octets (failure_of e)
no_certificate octets (read.Malformed fault) h m = inr (record { fault = fault; malformed = refl; found = h })
no_certificate octets read.OutOfMemory h m = inl (refl, m refl)

pub no_signed_data : (octets : List ℕ) (e : CmsFault) → IsCmsFault octets e
    → (e ≡ cms.OutOfMemory → (v : SignedDataValue) × EncodesSignedData octets v)
    → ShowsNoSignedData octets (failure_of_cms e)
no_signed_data octets (cms.Malformed fault) h m = inr (inr (record { fault = fault; malformed = refl; found = h }))
no_signed_data octets cms.NotSignedData h m = inr (inl (refl, h))
no_signed_data octets cms.OutOfMemory h m = inl (refl, m refl)

pub no_evidence : (octets : List ℕ) (e : ReadFault) → IsReadFault (file evidence_record) octets e
    → (e ≡ read.OutOfMemory → (v : EvidenceValue) × EncodesEvidence octets v) → ShowsNoEvidence octets (failure_of e)
no_evidence octets (read.Malformed fault) h m = inr (record { fault = fault; malformed = refl; found = h })
no_evidence octets read.OutOfMemory h m = inl (refl, m refl)
