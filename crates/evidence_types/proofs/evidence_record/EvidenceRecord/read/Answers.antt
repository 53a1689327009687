use Rattle.std.proofs.Common.{arith, ap, Ok}
use Rattle.std.proofs.lemmas.Result.{err_from_is_err_and}
use Rattle.der_core.proofs.ReadClauses.{same_value, err_never}
use Rattle.evidence_types.specs.EvidenceFields.{evidence_value}
use Rattle.evidence_types.specs.EvidenceValue.{EncodesEvidence}
use Rattle.evidence_types.specs.EvidenceReading.{evidence_at}
use Rattle.evidence_types.proofs.EvidenceReaders.{evidence_takes, evidence_again, evidence_fault}
use Rattle.evidence_types.proofs.evidence_record.EvidenceRecord.read.Goals as goal

pub returns-in_err-fields-clause-only : goal.returns-in_err-fields-clause-only
returns-in_err-fields-clause-only c =
    λ v h. absurd
    (err_never evidence_at EncodesEvidence evidence_again c.args.bytes.now c.in_err-fields.field-0.0
    c.in_err-fields.ensures v h)

pub returns-in_err-fields-clause-fault : goal.returns-in_err-fields-clause-fault
returns-in_err-fields-clause-fault c =
    let p = err_from_is_err_and c.from_residual.result c.from_residual.ensures.1 in
    rw (p.1, p.2) (evidence_fault c.args.bytes.now c.in_err-fields.field-0.0
    (λ i. omega (arith, c.type_inv.bytes i)) c.in_err-fields.ensures)

pub invariant_of-result : goal.invariant_of-result
invariant_of-result c = evidence_takes c.args.bytes.now (evidence_value c.in_ok-fields.fields)
    (λ i. omega (arith, c.type_inv.bytes i)) c.in_ok-fields.ensures

pub returns-clause-found : goal.returns-clause-found
returns-clause-found c = evidence_takes c.args.bytes.now (evidence_value c.in_ok-fields.fields)
    (λ i. omega (arith, c.type_inv.bytes i)) c.in_ok-fields.ensures

pub returns-clause-only : goal.returns-clause-only
returns-clause-only c = λ v h. ap Ok (same_value evidence_at EncodesEvidence evidence_again c.args.bytes.now
    (evidence_value c.in_ok-fields.fields) c.in_ok-fields.ensures v h)
