use Rattle.std.proofs.lemmas.Result.{err_from_is_err_and}
use Rattle.cli_values.proofs.Held.{held_as}
use Rattle.cli_making.proofs.Requested.{asks_if, file_refused, length_refused_if, sums_refused}
use Rattle.cli_making.proofs.request.octets_of.Goals as goal

pub returns-in_err-text-clause-refused : goal.returns-in_err-text-clause-refused
returns-in_err-text-clause-refused g c =
    let p = err_from_is_err_and c.from_residual-in_err-text.result c.from_residual-in_err-text.ensures.1 in
    rw (p.1, p.2)
    (file_refused _ c.args.words.now c.in_ok-alg.alg c.in_ok-alg.ensures.found _ _ c.in_ok-policy.ensures.found
    c.in_ok-nonce.ensures.found _ c.in_err-text.ensures.failure)

pub returns-in_err-root-clause-refused : goal.returns-in_err-root-clause-refused
returns-in_err-root-clause-refused g c =
    let p = err_from_is_err_and c.from_residual-in_err-root.result c.from_residual-in_err-root.ensures.1 in
    rw (p.1, p.2)
    (sums_refused _ c.args.words.now c.in_ok-alg.alg c.in_ok-alg.ensures.found _ _ c.in_ok-policy.ensures.found
    c.in_ok-nonce.ensures.found _ _ (held_as _ _ _ c.as_slice.ensures.value c.in_ok-text.ensures.whole)
    c.in_err-root.ensures.refused)

pub returns-clause-made : goal.returns-clause-made
returns-clause-made g c =
    asks_if _ c.args.words.now c.in_ok-alg.alg c.in_ok-alg.ensures.found _ _ c.in_ok-policy.ensures.found
    c.in_ok-nonce.ensures.found _ c.in_ok-root.root
    (held_as _ _ _ c.as_slice.ensures.value c.in_ok-text.ensures.whole) c.in_ok-root.ensures.found (λ v. v.items)
    c.policy_in.result c.nonce_in.result c.policy_in.ensures c.nonce_in.ensures c.request_of.result
    c.request_of.ensures.made

pub returns-clause-refused : goal.returns-clause-refused
returns-clause-refused g c =
    length_refused_if _ c.args.words.now c.in_ok-alg.alg c.in_ok-alg.ensures.found _ _ c.in_ok-policy.ensures.found
    c.in_ok-nonce.ensures.found _ c.in_ok-root.root
    (held_as _ _ _ c.as_slice.ensures.value c.in_ok-text.ensures.whole) c.in_ok-root.ensures.found
    c.policy_in.result c.nonce_in.result c.policy_in.ensures c.nonce_in.ensures c.request_of.result
    c.request_of.ensures.refused
