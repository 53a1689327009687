use Rattle.std.proofs.Common.{ℕ, List, ◌∷◌, Ok, Err, sym, ap, ◌∙◌}
use Rattle.std.proofs.lemmas.Result.{err_from_is_err_and}
use Rattle.devices.proofs.Putting.{puts_to}
use Rattle.check_questions.specs.FileQuestions.{InOrder, OfToken}
use Rattle.check_questions.proofs.Lines.{first_part, next_of, next_put, last_put}
use Rattle.check_questions.proofs.asking.put_under_tokens.Goals as goal

pub returns-in_err-put_under_token-clause-wrote : goal.returns-in_err-put_under_token-clause-wrote
returns-in_err-put_under_token-clause-wrote g c =
    let p = err_from_is_err_and c.from_residual.result c.from_residual.ensures.1 in
    rw p.1 (c.loop-first.invariant.goes (Err p.0) (g.S.Sink.taken c.put_under_token.new.sink)
    (g.S.Sink.failures c.put_under_token.new.sink)
    (λ qs are. first_part (OfToken c.args.trust.now c.whole.result.now)
    (InOrder (OfToken c.args.trust.now) c.in-Some.others) p.0
    (g.S.Sink.tells c.loop-first.sink) (g.S.Sink.taken c.loop-first.sink) (g.S.Sink.taken c.put_under_token.new.sink)
    (g.S.Sink.failures c.loop-first.sink)
    (g.S.Sink.failures c.put_under_token.new.sink) c.in_err-put_under_token.ensures.wrote qs
    (next_of (OfToken c.args.trust.now) c.loop-first.left c.whole.result.now c.in-Some.others
    (c.in-Some.ensures ∙ ap (λ (x : List ℕ). x ∷ c.in-Some.others) (sym c.whole.ensures)) qs are)))

pub loop-first-preserved : goal.loop-first-preserved
loop-first-preserved g c = record {
  goes = λ r t n w. c.loop-first.invariant.goes r t n
      (next_put (OfToken c.args.trust.now)
      (puts_to g.S.Sink.tells g.S.Sink.taken g.S.Sink.failures c.loop-first.sink c.put_under_token.new.sink
      c.put_under_token.ensures.telling
      (record { taken = t; failures = n }) r)
      c.loop-first.left c.whole.result.now c.in-Some.others
      (c.in-Some.ensures ∙ ap (λ (x : List ℕ). x ∷ c.in-Some.others) (sym c.whole.ensures))
      c.in_ok-put_under_token.ensures.wrote w);
  telling = λ t. c.put_under_token.ensures.telling (c.loop-first.invariant.telling t);
}

pub returns-clause-wrote : goal.returns-clause-wrote
returns-clause-wrote g c =
    c.loop-first.invariant.goes (Ok tt) (g.S.Sink.taken c.loop-first.sink) (g.S.Sink.failures c.loop-first.sink)
    (last_put (OfToken c.args.trust.now) tt (g.S.Sink.tells c.loop-first.sink) (g.S.Sink.taken c.loop-first.sink)
    (g.S.Sink.failures c.loop-first.sink) c.loop-first.left c.in_default.ensures)
