use Rattle.std.proofs.Common.{arith}
use Rattle.std.proofs.lemmas.Result.{err_from_is_err_and}
use Rattle.check_questions.specs.FileQuestions.{AreQuestionsOfToken}
use Rattle.check_questions.proofs.Returned.{unopened, unopened_written, unopened_malformed, unopened_another}
use Rattle.check_questions.proofs.Returned.{opened_malformed, unopened_counts, puts_token, puts_some_token}
use Rattle.check_questions.proofs.Returned.{done_another, failed_another}
use Rattle.check_questions.proofs.alone.token_questions.Goals as goal

pub returns-in_err-signed_of-clause-written : goal.returns-in_err-signed_of-clause-written
returns-in_err-signed_of-clause-written g c =
    let p = err_from_is_err_and c.from_residual.result c.from_residual.ensures.1 in
    rw (p.1, p.2) (unopened_written
    (AreQuestionsOfToken c.args.trust.now c.args.token.now) c.args.token.now c.in_err-signed_of.field-0.0
    (g.S.Sink.tells c.args.sink.now) (g.S.Sink.taken c.args.sink.now) (g.S.Sink.failures c.args.sink.now)
    c.in_err-signed_of.ensures)

pub returns-in_err-signed_of-clause-only : goal.returns-in_err-signed_of-clause-only
returns-in_err-signed_of-clause-only g c =
    λ qs h. absurd (unopened c.args.token.now c.in_err-signed_of.field-0.0 h.signed
    c.in_err-signed_of.ensures h.encodes)

pub returns-in_err-signed_of-clause-malformed : goal.returns-in_err-signed_of-clause-malformed
returns-in_err-signed_of-clause-malformed g c =
    let p = err_from_is_err_and c.from_residual.result c.from_residual.ensures.1 in
    rw (p.1, p.2) (unopened_malformed c.args.token.now c.in_err-signed_of.field-0.0 c.in_err-signed_of.ensures)

pub returns-in_err-signed_of-clause-another : goal.returns-in_err-signed_of-clause-another
returns-in_err-signed_of-clause-another g c =
    let p = err_from_is_err_and c.from_residual.result c.from_residual.ensures.1 in
    rw (p.1, p.2) (unopened_another c.args.token.now c.in_err-signed_of.field-0.0 c.in_err-signed_of.ensures)

pub returns-in_err-signed_of-clause-count : goal.returns-in_err-signed_of-clause-count
returns-in_err-signed_of-clause-count g c =
    let p = err_from_is_err_and c.from_residual.result c.from_residual.ensures.1 in
    rw (p.1, p.2) (unopened_counts c.args.token.now c.in_err-signed_of.field-0.0 (g.S.Sink.failures c.args.sink.now)
    c.in_err-signed_of.ensures)

pub returns-in-Ok-clause-written : goal.returns-in-Ok-clause-written
returns-in-Ok-clause-written g c =
    puts_some_token c.args.trust.now c.args.token.now c.in_ok-signed_of.field-0
    (λ i. omega (arith, c.type_inv.token i)) c.in_ok-signed_of.ensures c.in-Ok.ensures.wrote

pub returns-in-Ok-clause-only : goal.returns-in-Ok-clause-only
returns-in-Ok-clause-only g c =
    puts_token c.args.trust.now c.args.token.now c.in-Ok.ensures.wrote

pub returns-in-Ok-clause-another : goal.returns-in-Ok-clause-another
returns-in-Ok-clause-another g c =
    done_another c.args.token.now c.in_ok-signed_of.field-0 c.in_ok-signed_of.ensures

pub returns-in-Ok-clause-count : goal.returns-in-Ok-clause-count
returns-in-Ok-clause-count g c =
    (puts_some_token c.args.trust.now c.args.token.now c.in_ok-signed_of.field-0
    (λ i. omega (arith, c.type_inv.token i)) c.in_ok-signed_of.ensures c.in-Ok.ensures.wrote).2.1

pub returns-in-Err-clause-written : goal.returns-in-Err-clause-written
returns-in-Err-clause-written g c = puts_some_token c.args.trust.now c.args.token.now c.in_ok-signed_of.field-0
    (λ i. omega (arith, c.type_inv.token i)) c.in_ok-signed_of.ensures c.in-Err.ensures.wrote

pub returns-in-Err-clause-only : goal.returns-in-Err-clause-only
returns-in-Err-clause-only g c = puts_token c.args.trust.now c.args.token.now c.in-Err.ensures.wrote

pub returns-in-Err-clause-another : goal.returns-in-Err-clause-another
returns-in-Err-clause-another g c =
    failed_another c.args.token.now c.in_ok-signed_of.field-0 c.in_ok-signed_of.ensures

pub returns-in-Err-clause-count : goal.returns-in-Err-clause-count
returns-in-Err-clause-count g c = (puts_some_token c.args.trust.now c.args.token.now c.in_ok-signed_of.field-0
    (λ i. omega (arith, c.type_inv.token i)) c.in_ok-signed_of.ensures c.in-Err.ensures.wrote).2.1

pub returns-in-Ok-clause-malformed : goal.returns-in-Ok-clause-malformed
returns-in-Ok-clause-malformed g c =
    opened_malformed c.args.token.now c.in_ok-signed_of.field-0 c.in_ok-signed_of.ensures

pub returns-in-Err-clause-malformed : goal.returns-in-Err-clause-malformed
returns-in-Err-clause-malformed g c =
    opened_malformed c.args.token.now c.in_ok-signed_of.field-0 c.in_ok-signed_of.ensures
