use Rattle.std.proofs.Common.{arith, ap, Ok}
use Rattle.std.proofs.lemmas.Result.{err_from_is_err_and}
use Rattle.tsp_types.specs.ResponseFields.{response_value}
use Rattle.der_core.proofs.ReadClauses.{same_value, err_never}
use Rattle.tsp_types.specs.ResponseValue.{EncodesResponse}
use Rattle.tsp_types.specs.ResponseReading.{response_at}
use Rattle.tsp_types.proofs.ResponseReaders.{response_takes, response_again, response_fault}
use Rattle.tsp_types.proofs.response.Response.read.Goals as goal

pub returns-in_err-fields-clause-only : goal.returns-in_err-fields-clause-only
returns-in_err-fields-clause-only c =
    λ v h. absurd (err_never response_at EncodesResponse response_again c.args.bytes.now c.in_err-fields.field-0.0
    c.in_err-fields.ensures v h)

pub returns-in_err-fields-clause-fault : goal.returns-in_err-fields-clause-fault
returns-in_err-fields-clause-fault c =
    let p = err_from_is_err_and c.from_residual.result c.from_residual.ensures.1 in
    rw (p.1, p.2) (response_fault c.args.bytes.now c.in_err-fields.field-0.0
    (λ i. omega (arith, c.type_inv.bytes i)) c.in_err-fields.ensures)

pub invariant_of-result : goal.invariant_of-result
invariant_of-result c = response_takes c.args.bytes.now (response_value c.in_ok-fields.fields)
    (λ i. omega (arith, c.type_inv.bytes i)) c.in_ok-fields.ensures

pub returns-clause-found : goal.returns-clause-found
returns-clause-found c = response_takes c.args.bytes.now (response_value c.in_ok-fields.fields)
    (λ i. omega (arith, c.type_inv.bytes i)) c.in_ok-fields.ensures

pub returns-clause-only : goal.returns-clause-only
returns-clause-only c = λ v h. ap Ok (same_value response_at EncodesResponse response_again c.args.bytes.now
    (response_value c.in_ok-fields.fields) c.in_ok-fields.ensures v h)
