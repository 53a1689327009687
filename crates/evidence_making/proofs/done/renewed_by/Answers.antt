use Rattle.evidence_making.specs.Done.{AreRenewed}
use Rattle.evidence_making.proofs.Already.{never_open, of_open}
use Rattle.evidence_making.proofs.InOrder.{record_out}
use Rattle.evidence_making.proofs.done.renewed_by.Goals as goal

pub returns-in-Ok-clause-renewed : goal.returns-in-Ok-clause-renewed
returns-in-Ok-clause-renewed c =
    of_open c.args.octets.now c.args.token.now (λ last chains. AreRenewed chains c.args.token.now last)
    c.in-Ok.record c.in-Ok.ensures c.chains.result.now c.chains.ensures c.renewed_in.result c.renewed_in.ensures.renewed

pub returns-in-Err-clause-renewed : goal.returns-in-Err-clause-renewed
returns-in-Err-clause-renewed c = λ last h. never_open c.args.octets.now c.args.token.now
    (λ chains. AreRenewed chains c.args.token.now last) c.in-Err.field-0 c.in-Err.ensures h

pub returns-in-Ok-clause-memory : goal.returns-in-Ok-clause-memory
returns-in-Ok-clause-memory c = λ e. record_out c.args.octets.now c.in-Ok.record c.in-Ok.ensures.0
    c.chains.result.now c.chains.ensures (c.renewed_in.ensures.memory e)
