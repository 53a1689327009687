use Rattle.std.proofs.Common.{◌/◌, ◌%◌, ◌∷◌, [], ◌++◌, ◌∙◌, ap, append_assoc, arith}
use Rattle.der_oid_text.specs.OidSteps.{high_octets, base_128}
use Rattle.der_oid_text.proofs.Subidentifiers.{length-base_128}
use Rattle.der_oid_text.proofs.Refused.{on_err}
use Rattle.der_oid_text.proofs.oid_arcs.push_subidentifier.Goals as goal

pub returns-clause-items : goal.returns-clause-items
unfolding base_128
returns-clause-items c =
    let n = c.args.number in
    c.in_ok-push.ensures.items
    ∙ ap (λ l. l ++ n % 128 ∷ []) c.in_ok-push_high_octets.ensures.items
    ∙ append_assoc c.args.contents.now.items (high_octets (n / 128)) (n % 128 ∷ [])

pub returns-in_err-push_high_octets-clause-full : goal.returns-in_err-push_high_octets-clause-full
returns-in_err-push_high_octets-clause-full c = on_err c.from_residual.result
    (omega (arith, c.in_err-push_high_octets.ensures.full, length-base_128 c.args.number))

pub returns-in_err-push-clause-full : goal.returns-in_err-push-clause-full
returns-in_err-push-clause-full c =
    on_err c.from_residual-in_err-push.result (omega (
      arith,
      c.in_err-push.ensures.full,
      c.in_ok-push_high_octets.ensures.len,
      c.push_high_octets.ensures.capacity,
      length-base_128 c.args.number,
    ))
