use Rattle.std.proofs.Common.{sym}
use Rattle.trust_lists.specs.declared.role.Role.TheVariants.{Signer}
use Rattle.check_verdict.specs.Verdicts.{tokens}
use Rattle.check_questions.specs.FileQuestions.{InOrder, OfEntries, OfToken}
use Rattle.devices.proofs.Putting.{two_puts}
use Rattle.check_questions.proofs.Lines.{two_put}
use Rattle.check_questions.proofs.Under.{signer_put}
use Rattle.check_questions.proofs.asking.put_under_signer.Goals as goal

pub returns-clause-wrote : goal.returns-clause-wrote
returns-clause-wrote g c =
    signer_put c.args.trust.now c.args.signer.now c.in-Some._attributes.now c.put_under_tokens.result
    (g.S.Sink.tells c.args.sink.now) (g.S.Sink.taken c.args.sink.now) (g.S.Sink.taken c.put_under_tokens.new.sink)
    (g.S.Sink.failures c.args.sink.now)
    (g.S.Sink.failures c.put_under_tokens.new.sink) (sym c.in-Some.ensures)
    (two_put (OfEntries Signer c.args.signer.now c.args.trust.now)
    (InOrder (OfToken c.args.trust.now) (tokens c.args.signer.now))
    (two_puts g.S.Sink.tells g.S.Sink.taken g.S.Sink.failures c.args.sink.now c.put_under_entries.new.sink
    c.put_under_tokens.new.sink
    c.put_under_entries.ensures.telling c.put_under_tokens.result)
    c.in_ok-put_under_entries.ensures.wrote c.put_under_tokens.ensures.wrote)
