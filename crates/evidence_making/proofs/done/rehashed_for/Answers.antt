use Rattle.evidence_making.specs.Done.{AreRehashed}
use Rattle.evidence_making.proofs.Already.{never_open, of_open_two}
use Rattle.evidence_making.proofs.InOrder.{record_out}
use Rattle.evidence_making.proofs.done.rehashed_for.Goals as goal

pub returns-in-Ok-clause-rehashed : goal.returns-in-Ok-clause-rehashed
returns-in-Ok-clause-rehashed c = of_open_two c.args.octets.now c.args.token.now (λ r. r.0) (λ r. r.1)
    (λ leaf m chains. AreRehashed chains c.args.token.now c.args.digest.now leaf m)
    c.in-Ok.record c.in-Ok.ensures c.chains.result.now c.chains.ensures c.rehashed_in.result
    c.rehashed_in.ensures.rehashed

pub returns-in-Err-clause-rehashed : goal.returns-in-Err-clause-rehashed
returns-in-Err-clause-rehashed c = λ leaf m h. never_open c.args.octets.now c.args.token.now
    (λ chains. AreRehashed chains c.args.token.now c.args.digest.now leaf m) c.in-Err.field-0 c.in-Err.ensures h

pub returns-in-Ok-clause-memory : goal.returns-in-Ok-clause-memory
returns-in-Ok-clause-memory c = λ e. record_out c.args.octets.now c.in-Ok.record c.in-Ok.ensures.0
    c.chains.result.now c.chains.ensures (c.rehashed_in.ensures.memory e)
