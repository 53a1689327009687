use Rattle.std.proofs.Common.{arith}
use Rattle.std.proofs.lemmas.Result.{err_from_is_err_and}
use Rattle.check_questions.specs.FileQuestions.{AreQuestionsOf}
use Rattle.check_questions.proofs.Returned.{unopened, unopened_written, unopened_malformed, unopened_another}
use Rattle.check_questions.proofs.Returned.{opened_malformed, unopened_counts, puts_file, puts_some, done_another}
use Rattle.check_questions.proofs.Returned.{failed_another}
use Rattle.check_questions.proofs.file_questions.questions.Goals as goal

pub returns-in_err-signed-clause-written : goal.returns-in_err-signed-clause-written
returns-in_err-signed-clause-written g c =
    let p = err_from_is_err_and c.from_residual.result c.from_residual.ensures.1 in
    rw (p.1, p.2)
    (unopened_written (AreQuestionsOf c.args.trust.now c.args.file.now) c.args.file.now c.in_err-signed.field-0.0
    (g.S.Sink.tells c.args.sink.now) (g.S.Sink.taken c.args.sink.now) (g.S.Sink.failures c.args.sink.now)
    c.in_err-signed.ensures)

pub returns-in_err-signed-clause-only : goal.returns-in_err-signed-clause-only
returns-in_err-signed-clause-only g c = λ qs h. absurd (unopened c.args.file.now c.in_err-signed.field-0.0 h.signed
    c.in_err-signed.ensures h.encodes)

pub returns-in_err-signed-clause-malformed : goal.returns-in_err-signed-clause-malformed
returns-in_err-signed-clause-malformed g c =
    let p = err_from_is_err_and c.from_residual.result c.from_residual.ensures.1 in
    rw (p.1, p.2) (unopened_malformed c.args.file.now c.in_err-signed.field-0.0 c.in_err-signed.ensures)

pub returns-in_err-signed-clause-another : goal.returns-in_err-signed-clause-another
returns-in_err-signed-clause-another g c =
    let p = err_from_is_err_and c.from_residual.result c.from_residual.ensures.1 in
    rw (p.1, p.2) (unopened_another c.args.file.now c.in_err-signed.field-0.0 c.in_err-signed.ensures)

pub returns-in_err-signed-clause-count : goal.returns-in_err-signed-clause-count
returns-in_err-signed-clause-count g c =
    let p = err_from_is_err_and c.from_residual.result c.from_residual.ensures.1 in
    rw (p.1, p.2) (unopened_counts c.args.file.now c.in_err-signed.field-0.0 (g.S.Sink.failures c.args.sink.now)
    c.in_err-signed.ensures)

pub returns-in-Ok-clause-written : goal.returns-in-Ok-clause-written
returns-in-Ok-clause-written g c =
    puts_some c.args.trust.now c.signers.result.now c.args.file.now c.in_ok-signed.signed
    (λ i. omega (arith, c.type_inv.file i)) c.signers.ensures c.in_ok-signed.ensures c.in-Ok.ensures.wrote

pub returns-in-Ok-clause-only : goal.returns-in-Ok-clause-only
returns-in-Ok-clause-only g c = puts_file c.args.trust.now c.signers.result.now c.args.file.now c.in_ok-signed.signed
    c.signers.ensures c.in_ok-signed.ensures
    c.in-Ok.ensures.wrote

pub returns-in-Ok-clause-another : goal.returns-in-Ok-clause-another
returns-in-Ok-clause-another g c = done_another c.args.file.now c.in_ok-signed.signed c.in_ok-signed.ensures

pub returns-in-Ok-clause-count : goal.returns-in-Ok-clause-count
returns-in-Ok-clause-count g c =
    (puts_some c.args.trust.now c.signers.result.now c.args.file.now c.in_ok-signed.signed
    (λ i. omega (arith, c.type_inv.file i)) c.signers.ensures c.in_ok-signed.ensures c.in-Ok.ensures.wrote).2.1

pub returns-in-Err-clause-written : goal.returns-in-Err-clause-written
returns-in-Err-clause-written g c =
    puts_some c.args.trust.now c.signers.result.now c.args.file.now c.in_ok-signed.signed
    (λ i. omega (arith, c.type_inv.file i)) c.signers.ensures c.in_ok-signed.ensures c.in-Err.ensures.wrote

pub returns-in-Err-clause-only : goal.returns-in-Err-clause-only
returns-in-Err-clause-only g c = puts_file c.args.trust.now c.signers.result.now c.args.file.now c.in_ok-signed.signed
    c.signers.ensures c.in_ok-signed.ensures c.in-Err.ensures.wrote

pub returns-in-Err-clause-another : goal.returns-in-Err-clause-another
returns-in-Err-clause-another g c = failed_another c.args.file.now c.in_ok-signed.signed c.in_ok-signed.ensures

pub returns-in-Err-clause-count : goal.returns-in-Err-clause-count
returns-in-Err-clause-count g c = (puts_some c.args.trust.now c.signers.result.now c.args.file.now c.in_ok-signed.signed
    (λ i. omega (arith, c.type_inv.file i)) c.signers.ensures c.in_ok-signed.ensures c.in-Err.ensures.wrote).2.1

pub returns-in-Ok-clause-malformed : goal.returns-in-Ok-clause-malformed
returns-in-Ok-clause-malformed g c =
    opened_malformed c.args.file.now c.in_ok-signed.signed c.in_ok-signed.ensures

pub returns-in-Err-clause-malformed : goal.returns-in-Err-clause-malformed
returns-in-Err-clause-malformed g c =
    opened_malformed c.args.file.now c.in_ok-signed.signed c.in_ok-signed.ensures
