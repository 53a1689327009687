use Rattle.std.proofs.Common.{Ok, ap, arith}
use Rattle.std.proofs.lemmas.Result.{err_from_is_err_and}
use Rattle.cms_types.proofs.SignerReaders.{signers_take, signers_fault, signers_same, no_signers}
use Rattle.cms_types.proofs.signers.Signers.read.Goals as goal

pub returns-in_err-signers-clause-only : goal.returns-in_err-signers-clause-only
returns-in_err-signers-clause-only c = let e = rw c.new.ensures at c.in_err-signers.ensures in
    λ ss h. absurd (no_signers c.args.at c.args.octets.now c.in_err-signers.field-0.0 e ss h)

pub returns-in_err-signers-clause-fault : goal.returns-in_err-signers-clause-fault
returns-in_err-signers-clause-fault c =
    let e = rw c.new.ensures at c.in_err-signers.ensures in
    let p = err_from_is_err_and c.from_residual.result c.from_residual.ensures.1 in
    rw (p.1, p.2) (signers_fault c.args.at c.args.octets.now c.in_err-signers.field-0.0
    (λ i. omega (arith, c.type_inv.octets i)) e)

pub returns-clause-found : goal.returns-clause-found
returns-clause-found c = let e = rw c.new.ensures at c.in_ok-signers.ensures in
    signers_take c.args.at c.args.octets.now c.in_ok-signers.signers (λ i. omega (arith, c.type_inv.octets i)) e

pub returns-clause-only : goal.returns-clause-only
returns-clause-only c = let e = rw c.new.ensures at c.in_ok-signers.ensures in
    λ ss h. ap Ok (signers_same c.args.at c.args.octets.now c.in_ok-signers.signers e ss h)
