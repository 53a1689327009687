use Rattle.std.proofs.Common.{ℕ, Vec, Global}
use Rattle.std.proofs.lemmas.Result.{err_from_is_err_and}
use Rattle.library_calls.proofs.Requested.{values, asks, too_long}
use Rattle.library_calls.proofs.Stamped.{policy_refused, signer_refused, signature_too_long, signature_asked}
use Rattle.library_calls.proofs.request.octets_of_signature.Goals as goal

pub returns-in_err-contents-clause-refused : goal.returns-in_err-contents-clause-refused
returns-in_err-contents-clause-refused c =
    let p = err_from_is_err_and c.from_residual-in_err-contents.result c.from_residual-in_err-contents.ensures.1 in
    rw (p.1, p.2) (policy_refused c.args.algorithm.now c.args.file.now c.args.signer c.args.policy.now c.args.nonce.now
    c.args.certificate
    c.in_ok-alg.alg c.in_ok-alg.ensures.found _ c.in_err-contents.ensures.refused)

pub returns-in_err-digest-clause-refused : goal.returns-in_err-digest-clause-refused
returns-in_err-digest-clause-refused c =
    let are = values _ _ _ c.in_ok-number.number c.in_ok-contents.ensures.found c.in_ok-number.ensures.found
    c.in_ok-number.ensures.formed in
    let p = err_from_is_err_and c.from_residual-in_err-digest.result c.from_residual-in_err-digest.ensures.1 in
    rw (p.1, p.2) (signer_refused c.args.algorithm.now c.args.file.now c.args.signer c.args.policy.now c.args.nonce.now
    c.args.certificate
    c.in_ok-alg.alg c.in_ok-alg.ensures.found are _ c.in_err-digest.ensures.refused)

pub returns-clause-made : goal.returns-clause-made
returns-clause-made c =
    let are = values _ _ _ c.in_ok-number.number c.in_ok-contents.ensures.found c.in_ok-number.ensures.found
    c.in_ok-number.ensures.formed in
    signature_asked c.args.algorithm.now c.args.file.now c.args.signer c.args.policy.now c.args.nonce.now
    c.args.certificate c.in_ok-alg.alg c.in_ok-alg.ensures.found (λ (v : Vec ℕ Global). v.items) c.in_ok-digest.digest
    c.request_of.result c.in_ok-digest.ensures.found (asks _ _ c.args.certificate are c.in_ok-digest.digest _
    c.policy_in.ensures (λ (v : Vec ℕ Global). v.items) c.request_of.result c.request_of.ensures.made)

pub returns-clause-refused : goal.returns-clause-refused
returns-clause-refused c =
    let are = values _ _ _ c.in_ok-number.number c.in_ok-contents.ensures.found c.in_ok-number.ensures.found
    c.in_ok-number.ensures.formed in
    signature_too_long c.args.algorithm.now c.args.file.now c.args.signer c.args.policy.now c.args.nonce.now
    c.args.certificate c.in_ok-alg.alg c.in_ok-alg.ensures.found are c.in_ok-digest.digest c.request_of.result
    c.in_ok-digest.ensures.found (too_long _ _ c.args.certificate are c.in_ok-digest.digest _ c.policy_in.ensures
    c.request_of.result c.request_of.ensures.refused)
