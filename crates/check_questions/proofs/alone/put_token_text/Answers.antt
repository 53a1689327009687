use Rattle.std.proofs.lemmas.Result.{err_from_is_err_and}
use Rattle.devices.proofs.Putting.{two_puts}
use Rattle.check_questions.specs.FileQuestions.{OfToken}
use Rattle.check_questions.proofs.Lines.{text_put, text_part}
use Rattle.check_questions.proofs.alone.put_token_text.Goals as goal

pub returns-in_err-put_all-clause-wrote : goal.returns-in_err-put_all-clause-wrote
returns-in_err-put_all-clause-wrote g c =
    let p = err_from_is_err_and c.from_residual.result c.from_residual.ensures.1 in
    rw p.1 (text_part (OfToken c.args.trust.now c.args.token.now) p.0 _ _ _ _ _ c.in_err-put_all.ensures.wrote)

pub returns-clause-wrote : goal.returns-clause-wrote
returns-clause-wrote g c = text_put (OfToken c.args.trust.now c.args.token.now)
    (two_puts g.S.Sink.tells g.S.Sink.taken g.S.Sink.failures c.args.sink.now c.put_all.new.sink
    c.put_under_token.new.sink c.put_all.ensures.telling c.put_under_token.result)
    c.in_ok-put_all.ensures.wrote c.put_under_token.ensures.wrote
