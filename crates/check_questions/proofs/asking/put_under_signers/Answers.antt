use Rattle.std.proofs.Common.{Ok, Err}
use Rattle.std.proofs.lemmas.Result.{err_from_is_err_and}
use Rattle.devices.proofs.Putting.{puts_to}
use Rattle.check_questions.specs.FileQuestions.{InOrder, OfSigner}
use Rattle.check_questions.proofs.Lines.{first_part, next_of, next_put, last_put}
use Rattle.check_questions.proofs.asking.put_under_signers.Goals as goal

pub returns-in_err-put_under_signer-clause-wrote : goal.returns-in_err-put_under_signer-clause-wrote
returns-in_err-put_under_signer-clause-wrote g c =
    let p = err_from_is_err_and c.from_residual.result c.from_residual.ensures.1 in
    rw p.1 (c.loop-first.invariant.goes (Err p.0) (g.S.Sink.taken c.put_under_signer.new.sink)
    (g.S.Sink.failures c.put_under_signer.new.sink)
    (λ qs are. first_part (OfSigner c.args.trust.now c.in-Some.first)
    (InOrder (OfSigner c.args.trust.now) c.in-Some.others) p.0
    (g.S.Sink.tells c.loop-first.sink) (g.S.Sink.taken c.loop-first.sink) (g.S.Sink.taken c.put_under_signer.new.sink)
    (g.S.Sink.failures c.loop-first.sink)
    (g.S.Sink.failures c.put_under_signer.new.sink) c.in_err-put_under_signer.ensures.wrote qs
    (next_of (OfSigner c.args.trust.now) c.loop-first.left c.in-Some.first c.in-Some.others c.in-Some.ensures qs are)))

pub loop-first-preserved : goal.loop-first-preserved
loop-first-preserved g c = record {
  goes = λ r t n w. c.loop-first.invariant.goes r t n
      (next_put (OfSigner c.args.trust.now)
      (puts_to g.S.Sink.tells g.S.Sink.taken g.S.Sink.failures c.loop-first.sink c.put_under_signer.new.sink
      c.put_under_signer.ensures.telling
      (record { taken = t; failures = n }) r)
      c.loop-first.left c.in-Some.first c.in-Some.others c.in-Some.ensures c.in_ok-put_under_signer.ensures.wrote w);
  telling = λ t. c.put_under_signer.ensures.telling (c.loop-first.invariant.telling t);
}

pub returns-clause-wrote : goal.returns-clause-wrote
returns-clause-wrote g c =
    c.loop-first.invariant.goes (Ok tt) (g.S.Sink.taken c.loop-first.sink) (g.S.Sink.failures c.loop-first.sink)
    (last_put (OfSigner c.args.trust.now) tt (g.S.Sink.tells c.loop-first.sink) (g.S.Sink.taken c.loop-first.sink)
    (g.S.Sink.failures c.loop-first.sink) c.loop-first.left c.in_default.ensures)
