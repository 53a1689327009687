use Rattle.std.proofs.Common.{arith, ap, Ok}
use Rattle.std.proofs.lemmas.Result.{err_from_is_err_and}
use Rattle.cert_types.specs.CertificateFields.{certificate_value}
use Rattle.der_core.proofs.ReadClauses.{same_value, err_never}
use Rattle.cert_types.specs.CertificateValue.{EncodesCertificate}
use Rattle.cert_types.specs.CertificateReading.{certificate_at}
use Rattle.cert_types.proofs.CertificateReaders.{certificate_takes, certificate_again, certificate_fault}
use Rattle.cert_types.proofs.certificate.Certificate.read.Goals as goal

pub returns-in_err-fields-clause-only : goal.returns-in_err-fields-clause-only
returns-in_err-fields-clause-only c =
    λ v h. absurd (err_never certificate_at EncodesCertificate certificate_again c.args.bytes.now
    c.in_err-fields.field-0.0 c.in_err-fields.ensures v h)

pub returns-in_err-fields-clause-fault : goal.returns-in_err-fields-clause-fault
returns-in_err-fields-clause-fault c =
    let p = err_from_is_err_and c.from_residual.result c.from_residual.ensures.1 in
    rw (p.1, p.2) (certificate_fault c.args.bytes.now c.in_err-fields.field-0.0
    (λ i. omega (arith, c.type_inv.bytes i)) c.in_err-fields.ensures)

pub invariant_of-result : goal.invariant_of-result
invariant_of-result c = certificate_takes c.args.bytes.now (certificate_value c.in_ok-fields.fields)
    (λ i. omega (arith, c.type_inv.bytes i)) c.in_ok-fields.ensures

pub returns-clause-found : goal.returns-clause-found
returns-clause-found c = certificate_takes c.args.bytes.now (certificate_value c.in_ok-fields.fields)
    (λ i. omega (arith, c.type_inv.bytes i)) c.in_ok-fields.ensures

pub returns-clause-only : goal.returns-clause-only
returns-clause-only c = λ v h. ap Ok (same_value certificate_at EncodesCertificate certificate_again c.args.bytes.now
    (certificate_value c.in_ok-fields.fields) c.in_ok-fields.ensures v h)
