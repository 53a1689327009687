use Rattle.std.proofs.Common.{rules, ◌≡◌, Err, sym, arith}
use Rattle.check_verdict.proofs.ClaimsRead.{unread, not_held, not_signed, no_imprint, stating}
use Rattle.check_verdict.proofs.claim.Stamp.read.Goals as goal

pub returns-in-Err : goal.returns-in-Err
returns-in-Err c = unread c.args.policy c.args.token.now c.in-Err.fault c.in-Err.ensures

pub returns-in_err-content : goal.returns-in_err-content
returns-in_err-content c =
    let r : c.from_residual.result ≡ Err c.in_err-content.field-0.0 = search rules in
    rw (r) (not_held c.args.policy c.args.token.now c.in-Ok.signed c.in-Ok.ensures
    (λ i. omega (arith, c.type_inv.token i)) c.in_err-content.field-0.0 c.in_err-content.ensures)

pub returns-in_err-signer : goal.returns-in_err-signer
returns-in_err-signer c =
    let r : c.from_residual-in_err-signer.result ≡ Err c.in_err-signer.field-0.0 = search rules in
    rw (r) (not_signed c.args.policy c.args.token.now c.in-Ok.signed c.in-Ok.ensures
    (λ i. omega (arith, c.type_inv.token i))
    c.in_ok-content.content.now c.in_ok-content.ensures c.in_err-signer.field-0.0 (sym c.in_err-signer.ensures))

pub returns-in_err-alg : goal.returns-in_err-alg
returns-in_err-alg c =
    let r : c.from_residual-in_err-alg.result ≡ Err c.in_err-alg.field-0.0 = search rules in
    rw (r) (no_imprint c.args.policy c.args.token.now c.in-Ok.signed c.in-Ok.ensures
    c.in_ok-content.content.now
    c.in_ok-content.ensures c.in_ok-signer.signer (sym c.in_ok-signer.ensures)
    c.in-Ok-stamp_of.stamp c.in-Ok-stamp_of.ensures c.in_err-alg.field-0.0
    (sym c.in_err-alg.ensures))

pub returns : goal.returns
returns c =
    stating c.args.policy c.args.token.now c.in-Ok.signed c.in-Ok.ensures c.in_ok-content.content.now
    c.in_ok-content.ensures c.in_ok-signer.signer (sym c.in_ok-signer.ensures)
    c.in-Ok-stamp_of.stamp c.in-Ok-stamp_of.ensures c.in_ok-alg.alg
    (sym c.in_ok-alg.ensures) c.time-moment.result c.time-moment.ensures c.imprint.result.now c.imprint.ensures
