use Rattle.std.proofs.Common.{ℕ, Vec, Global}
use Rattle.std.proofs.lemmas.Result.{err_from_is_err_and}
use Rattle.library_calls.proofs.Requested.{values, asks, too_long, policy_refused_given, asks_given, too_long_given}
use Rattle.library_calls.proofs.request.octets_of.Goals as goal

pub returns-in_err-contents-clause-refused : goal.returns-in_err-contents-clause-refused
returns-in_err-contents-clause-refused c =
    let p = err_from_is_err_and c.from_residual-in_err-contents.result c.from_residual-in_err-contents.ensures.1 in
    rw (p.1, p.2) (policy_refused_given c.args.policy.now c.args.nonce.now c.args.certificate c.args.digest
    c.in_ok-digest.digest c.in_ok-digest.was _ c.in_err-contents.ensures.refused)

pub returns-clause-made : goal.returns-clause-made
returns-clause-made c =
    let are = values c.args.policy.now c.args.nonce.now _ c.in_ok-number.number c.in_ok-contents.ensures.found
    c.in_ok-number.ensures.found c.in_ok-number.ensures.formed in
    asks_given _ _ c.args.certificate c.args.digest c.in_ok-digest.digest c.in_ok-digest.was
    (λ (v : Vec ℕ Global). v.items) c.request_of.result (asks _ _ c.args.certificate are c.in_ok-digest.digest _
    c.policy_in.ensures (λ (v : Vec ℕ Global). v.items) c.request_of.result c.request_of.ensures.made)

pub returns-clause-refused : goal.returns-clause-refused
returns-clause-refused c =
    let are = values c.args.policy.now c.args.nonce.now _ c.in_ok-number.number c.in_ok-contents.ensures.found
    c.in_ok-number.ensures.found c.in_ok-number.ensures.formed in
    too_long_given _ _ c.args.certificate c.args.digest c.in_ok-digest.digest c.in_ok-digest.was
    c.request_of.result (too_long _ _ c.args.certificate are c.in_ok-digest.digest _ c.policy_in.ensures
    c.request_of.result c.request_of.ensures.refused)
