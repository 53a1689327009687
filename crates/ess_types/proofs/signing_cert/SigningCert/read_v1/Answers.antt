use Rattle.std.proofs.Common.{arith, ap, Ok}
use Rattle.std.proofs.lemmas.Result.{err_from_is_err_and}
use Rattle.ess_types.specs.SigningFields.{signing_value}
use Rattle.der_core.proofs.ReadClauses.{same_value, err_never}
use Rattle.ess_types.specs.SigningCertificateValue.{EncodesSigningCertificate}
use Rattle.ess_types.specs.SigningCertificateReading.{signing_certificate_at}
use Rattle.ess_types.proofs.SigningCertificateReaders.{plain_takes, plain_again, plain_fault}
use Rattle.ess_types.proofs.signing_cert.SigningCert.read_v1.Goals as goal

pub returns-in_err-fields-clause-only : goal.returns-in_err-fields-clause-only
returns-in_err-fields-clause-only c =
    λ v h. absurd (err_never signing_certificate_at EncodesSigningCertificate plain_again c.args.bytes.now
    c.in_err-fields.field-0.0 c.in_err-fields.ensures v h)

pub returns-in_err-fields-clause-fault : goal.returns-in_err-fields-clause-fault
returns-in_err-fields-clause-fault c =
    let p = err_from_is_err_and c.from_residual.result c.from_residual.ensures.1 in
    rw (p.1, p.2) (plain_fault c.args.bytes.now c.in_err-fields.field-0.0
    (λ i. omega (arith, c.type_inv.bytes i)) c.in_err-fields.ensures)

pub invariant_of-result : goal.invariant_of-result
invariant_of-result c = (plain_takes c.args.bytes.now (signing_value c.in_ok-fields.fields)
    (λ i. omega (arith, c.type_inv.bytes i)) c.in_ok-fields.ensures).0

pub returns-clause-found : goal.returns-clause-found
returns-clause-found c = plain_takes c.args.bytes.now (signing_value c.in_ok-fields.fields)
    (λ i. omega (arith, c.type_inv.bytes i)) c.in_ok-fields.ensures

pub returns-clause-only : goal.returns-clause-only
returns-clause-only c =
    λ v h. ap Ok (same_value signing_certificate_at EncodesSigningCertificate plain_again c.args.bytes.now
    (signing_value c.in_ok-fields.fields) c.in_ok-fields.ensures v h)
