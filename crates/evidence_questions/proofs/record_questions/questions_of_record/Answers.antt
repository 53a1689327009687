use Rattle.std.proofs.Common.{arith}
use Rattle.evidence_questions.proofs.Returned.{unopened, unopened_malformed, unopened_encrypted, done_encrypted}
use Rattle.evidence_questions.proofs.Returned.{failed_encrypted, puts_record, puts_some}
use Rattle.evidence_questions.proofs.record_questions.questions_of_record.Goals as goal

pub returns-in-Ok-put_text-clause-written : goal.returns-in-Ok-put_text-clause-written
returns-in-Ok-put_text-clause-written g c =
    puts_some c.args.trust.now c.chains.result.now c.args.octets.now c.in-Ok.evidence
    (λ i. omega (arith, c.type_inv.octets i)) c.chains.ensures c.in-Ok.ensures c.in-Ok-put_text.ensures.wrote

pub returns-in-Ok-put_text-clause-only : goal.returns-in-Ok-put_text-clause-only
returns-in-Ok-put_text-clause-only g c =
    puts_record c.args.trust.now c.chains.result.now c.args.octets.now c.in-Ok.evidence
    c.chains.ensures c.in-Ok.ensures c.in-Ok-put_text.ensures.wrote

pub returns-in-Ok-put_text-clause-encrypted : goal.returns-in-Ok-put_text-clause-encrypted
returns-in-Ok-put_text-clause-encrypted g c = done_encrypted c.args.octets.now c.in-Ok.evidence c.in-Ok.ensures

pub returns-in-Ok-put_text-clause-count : goal.returns-in-Ok-put_text-clause-count
returns-in-Ok-put_text-clause-count g c =
    (puts_some c.args.trust.now c.chains.result.now c.args.octets.now c.in-Ok.evidence
    (λ i. omega (arith, c.type_inv.octets i)) c.chains.ensures c.in-Ok.ensures c.in-Ok-put_text.ensures.wrote).2.1

pub returns-in-Err-put_text-clause-written : goal.returns-in-Err-put_text-clause-written
returns-in-Err-put_text-clause-written g c =
    puts_some c.args.trust.now c.chains.result.now c.args.octets.now c.in-Ok.evidence
    (λ i. omega (arith, c.type_inv.octets i)) c.chains.ensures c.in-Ok.ensures c.in-Err-put_text.ensures.wrote

pub returns-in-Err-put_text-clause-only : goal.returns-in-Err-put_text-clause-only
returns-in-Err-put_text-clause-only g c =
    puts_record c.args.trust.now c.chains.result.now c.args.octets.now c.in-Ok.evidence
    c.chains.ensures c.in-Ok.ensures c.in-Err-put_text.ensures.wrote

pub returns-in-Err-put_text-clause-encrypted : goal.returns-in-Err-put_text-clause-encrypted
returns-in-Err-put_text-clause-encrypted g c = failed_encrypted c.args.octets.now c.in-Ok.evidence c.in-Ok.ensures

pub returns-in-Err-put_text-clause-count : goal.returns-in-Err-put_text-clause-count
returns-in-Err-put_text-clause-count g c =
    (puts_some c.args.trust.now c.chains.result.now c.args.octets.now c.in-Ok.evidence
    (λ i. omega (arith, c.type_inv.octets i)) c.chains.ensures c.in-Ok.ensures c.in-Err-put_text.ensures.wrote).2.1

pub returns-in-Err-clause-only : goal.returns-in-Err-clause-only
returns-in-Err-clause-only g c = λ qs h. absurd (unopened c.args.octets.now c.in-Err.rule h.record_value
    c.in-Err.ensures (h.encodes, h.open_data))

pub returns-in-Err-clause-malformed : goal.returns-in-Err-clause-malformed
returns-in-Err-clause-malformed g c = unopened_malformed c.args.octets.now c.in-Err.rule c.in-Err.ensures

pub returns-in-Err-clause-encrypted : goal.returns-in-Err-clause-encrypted
returns-in-Err-clause-encrypted g c = unopened_encrypted c.args.octets.now c.in-Err.rule c.in-Err.ensures
