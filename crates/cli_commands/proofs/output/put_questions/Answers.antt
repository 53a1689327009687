use Rattle.std.proofs.Common.{Ok, Err, length, rules}
use Rattle.std.proofs.lemmas.Result.{err_from_is_err_and}
use Rattle.cli_commands.proofs.Straight.{flushed, straight, unflushed}
use Rattle.cli_commands.proofs.output.put_questions.Goals as goal

pub returns-in_err-asked-clause-asks : goal.returns-in_err-asked-clause-asks
returns-in_err-asked-clause-asks g c =
    let p = err_from_is_err_and c.from_residual.result c.from_residual.ensures.1 in
    rw (p.1, p.2)
    (straight _ _ _ _ _ _ _ _ _ _
    (record { known = c.questions_stream-asked.ensures.telling; same = λ e. search rules })
    (Err c.in_err-asked.field-0.0) c.in_err-asked.ensures.text c.in_err-asked.ensures.before
    c.in_err-asked.ensures.written)

pub returns-in-Ok-clause-asks : goal.returns-in-Ok-clause-asks
returns-in-Ok-clause-asks g c =
    flushed c.args.trust.now (g.F.Read.remaining c.args.file.now.file) (length c.args.buffer.now) _ _ _ _
    (straight _ _ _ _ _ (length c.args.buffer.now) _ _ _ _
    (record { known = c.questions_stream-asked.ensures.telling; same = λ e. search rules })
    (Ok c.in_ok-asked.field-0) c.in_ok-asked.ensures.text c.in_ok-asked.ensures.before c.in_ok-asked.ensures.written)
    c.in-Ok.ensures.bytes

pub returns-in-Err-clause-asks : goal.returns-in-Err-clause-asks
returns-in-Err-clause-asks g c =
    unflushed c.args.trust.now (g.F.Read.remaining c.args.file.now.file) (length c.args.buffer.now) _ _ _ _
    (straight _ _ _ _ _ (length c.args.buffer.now) _ _ _ _
    (record { known = c.questions_stream-asked.ensures.telling; same = λ e. search rules })
    (Ok c.in_ok-asked.field-0) c.in_ok-asked.ensures.text c.in_ok-asked.ensures.before c.in_ok-asked.ensures.written)
    c.in-Err.ensures.bytes
