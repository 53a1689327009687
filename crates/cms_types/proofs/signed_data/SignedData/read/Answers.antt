use Rattle.std.proofs.Common.{Ok, ap, refl, arith}
use Rattle.std.proofs.lemmas.Result.{err_from_is_err_and}
use Rattle.cms_types.specs.SignedDataValue.{SignedContent, OtherContent}
use Rattle.cms_types.specs.Fields.{signed_data_value}
use Rattle.cms_types.proofs.SignedDataReaders.{content_takes, content_fault, other_never, signed_never, signed_only}
use Rattle.cms_types.proofs.SignedDataReaders.{nothing_encoded}
use Rattle.cms_types.proofs.signed_data.SignedData.read.Goals as goal

pub returns-in_err-fields-clause-only : goal.returns-in_err-fields-clause-only
returns-in_err-fields-clause-only c = λ v h.
    absurd (nothing_encoded c.args.bytes.now c.in_err-fields.field-0.0 c.in_err-fields.ensures (SignedContent v) h)

pub returns-in_err-fields-clause-fault : goal.returns-in_err-fields-clause-fault
returns-in_err-fields-clause-fault c =
    let p = err_from_is_err_and c.from_residual.result c.from_residual.ensures.1 in
    rw (p.1, p.2) (content_fault c.args.bytes.now c.in_err-fields.field-0.0
    (λ i. omega (arith, c.type_inv.bytes i)) c.in_err-fields.ensures)

pub returns-in_err-fields-clause-another : goal.returns-in_err-fields-clause-another
returns-in_err-fields-clause-another c =
    let p = err_from_is_err_and c.from_residual.result c.from_residual.ensures.1 in (
      λ is. absurd (let z = is in let m = p.1 in let f = p.2 in cc),
      λ x. absurd (nothing_encoded c.args.bytes.now c.in_err-fields.field-0.0 c.in_err-fields.ensures
          (OtherContent x.0 x.1) x.2),
    )

pub invariant_of-result : goal.invariant_of-result
invariant_of-result c = let e = rw c.in-Signed.is at c.in_ok-fields.ensures in
    content_takes c.args.bytes.now (SignedContent (signed_data_value c.in-Signed.fields))
    (λ i. omega (arith, c.type_inv.bytes i)) e

pub returns-in-Signed-clause-found : goal.returns-in-Signed-clause-found
returns-in-Signed-clause-found c = let e = rw c.in-Signed.is at c.in_ok-fields.ensures in
    content_takes c.args.bytes.now (SignedContent (signed_data_value c.in-Signed.fields))
    (λ i. omega (arith, c.type_inv.bytes i)) e

pub returns-in-Signed-clause-only : goal.returns-in-Signed-clause-only
returns-in-Signed-clause-only c = let e = rw c.in-Signed.is at c.in_ok-fields.ensures in
    λ v h. ap Ok (signed_only c.args.bytes.now (signed_data_value c.in-Signed.fields) e v h)

pub returns-in-Signed-clause-another : goal.returns-in-Signed-clause-another
returns-in-Signed-clause-another c = let e = rw c.in-Signed.is at c.in_ok-fields.ensures in (
  λ is. absurd (let z = is in cc),
  λ x. absurd (other_never c.args.bytes.now (signed_data_value c.in-Signed.fields) x.0 x.1 e x.2),
)

pub returns-in-Other-clause-only : goal.returns-in-Other-clause-only
returns-in-Other-clause-only c = let e = rw c.in-Other.is at c.in_ok-fields.ensures in
    λ v h. absurd (signed_never c.args.bytes.now v c.in-Other.field-0 c.in-Other.field-1.now e h)

pub returns-in-Other-clause-another : goal.returns-in-Other-clause-another
returns-in-Other-clause-another c = let e = rw c.in-Other.is at c.in_ok-fields.ensures in (
  λ is. (
    c.in-Other.field-0,
    c.in-Other.field-1.now,
    content_takes c.args.bytes.now (OtherContent c.in-Other.field-0 c.in-Other.field-1.now)
        (λ i. omega (arith, c.type_inv.bytes i)) e,
  ),
  λ x. refl,
)

pub returns-in-Other-clause-fault : goal.returns-in-Other-clause-fault
returns-in-Other-clause-fault c =
    let e = rw c.in-Other.is at c.in_ok-fields.ensures in (
      c.in-Other.field-0,
      c.in-Other.field-1.now,
      content_takes c.args.bytes.now (OtherContent c.in-Other.field-0 c.in-Other.field-1.now)
          (λ i. omega (arith, c.type_inv.bytes i)) e,
    )
