use Rattle.std.proofs.lemmas.Result.{err_from_is_err_and}
use Rattle.cli_values.proofs.Held.{held_as}
use Rattle.cli_commands.proofs.Stampings.{file_refused, signer_refused, signature_too_long, signature_asked}
use Rattle.cli_commands.proofs.request.octets_of_signature.Goals as goal

pub returns-in_err-file-clause-refused : goal.returns-in_err-file-clause-refused
returns-in_err-file-clause-refused g c =
    let p = err_from_is_err_and c.from_residual-in_err-file.result c.from_residual-in_err-file.ensures.1 in
    rw (p.1, p.2)
    (file_refused _ c.args.words.now c.in_ok-alg.alg c.args.path c.args.signer _ _ c.in_ok-alg.ensures.found
    c.in_ok-values.ensures.found _ c.in_err-file.ensures.failure)

pub returns-in_err-digest-clause-refused : goal.returns-in_err-digest-clause-refused
returns-in_err-digest-clause-refused g c =
    let p = err_from_is_err_and c.from_residual-in_err-digest.result c.from_residual-in_err-digest.ensures.1 in
    rw (p.1, p.2)
    (signer_refused _ c.args.words.now c.in_ok-alg.alg c.args.path c.args.signer _ _ c.in_ok-alg.ensures.found
    c.in_ok-values.ensures.found _ _
    (held_as _ _ _ c.as_slice.ensures.value c.in_ok-file.ensures.whole) c.in_err-digest.ensures.refused)

pub returns-clause-made : goal.returns-clause-made
returns-clause-made g c =
    signature_asked _ c.args.words.now c.in_ok-alg.alg c.args.path c.args.signer _ _ c.in_ok-alg.ensures.found
    c.in_ok-values.ensures.found
    (λ o. o.items) _ c.in_ok-digest.digest c.request_of.result
    (held_as _ _ _ c.as_slice.ensures.value c.in_ok-file.ensures.whole) c.in_ok-digest.ensures.found
    c.request_of.ensures.made

pub returns-clause-refused : goal.returns-clause-refused
returns-clause-refused g c =
    signature_too_long _ c.args.words.now c.in_ok-alg.alg c.args.path c.args.signer _ _ c.in_ok-alg.ensures.found
    c.in_ok-values.ensures.found
    _ c.in_ok-digest.digest c.request_of.result
    (held_as _ _ _ c.as_slice.ensures.value c.in_ok-file.ensures.whole) c.in_ok-digest.ensures.found
    c.request_of.ensures.refused
