use Rattle.std.proofs.Common.{◌≡◌, ◌+◌, ◌/◌, ◌%◌, ◌∷◌, [], ◌++◌, ◌∙◌, sym, ap, append_assoc, append-nil, length, arith}
use Rattle.der_oid_text.specs.OidSteps.{high_octets}
use Rattle.der_oid_text.proofs.Subidentifiers.{high_octets-zero, high_octets_step, length-high_octets}
use Rattle.der_oid_text.proofs.Refused.{on_err}
use Rattle.der_oid_text.proofs.oid_arcs.+push_high_octets.Goals as goal

pub returns-in_ok-push-clause-items : goal.returns-in_ok-push-clause-items
returns-in_ok-push-clause-items t c =
    let n = c.args.number in
    let before = c.args.contents.now.items in
    c.in_ok-push.ensures.items
    ∙ ap (λ l. l ++ (128 + n % 128) ∷ []) c.in_ok-push_high_octets.ensures.items
    ∙ append_assoc before (high_octets (n / 128)) ((128 + n % 128) ∷ [])
    ∙ ap (λ l. before ++ l) (sym (high_octets_step n (omega arith)))

pub returns-in_ok-push-clause-len : goal.returns-in_ok-push-clause-len
returns-in_ok-push-clause-len t c = omega (
  arith,
  c.in_ok-push.ensures.len,
  c.in_ok-push_high_octets.ensures.len,
  length-high_octets c.args.number (omega arith),
)

pub returns-in_err-push_high_octets-clause-full : goal.returns-in_err-push_high_octets-clause-full
returns-in_err-push_high_octets-clause-full t c = on_err c.from_residual.result
    (omega (arith, c.in_err-push_high_octets.ensures.full, length-high_octets c.args.number (omega arith)))

pub returns-in_err-push-clause-full : goal.returns-in_err-push-clause-full
returns-in_err-push-clause-full t c =
    on_err c.from_residual-in_err-push.result (omega (
      arith,
      c.in_err-push.ensures.full,
      c.in_ok-push_high_octets.ensures.len,
      c.push_high_octets.ensures.capacity,
      length-high_octets c.args.number (omega arith),
    ))

pub returns-else-number-gt0-clause-items : goal.returns-else-number-gt0-clause-items
returns-else-number-gt0-clause-items t c =
    let zero : c.args.number ≡ 0 = omega arith in
    let before = c.args.contents.now.items in
    sym (ap (λ n. before ++ high_octets n) zero ∙ ap (λ l. before ++ l) high_octets-zero ∙ append-nil before)

pub returns-else-number-gt0-clause-len : goal.returns-else-number-gt0-clause-len
returns-else-number-gt0-clause-len t c =
    let zero : c.args.number ≡ 0 = omega arith in
    omega (arith, ap (λ n. length (high_octets n)) zero ∙ ap length high_octets-zero)
