use Rattle.std.proofs.Common.{ℕ, List, Err, ◌++◌, refl, ap}
use Rattle.std.specs.Prelude.{codes}
use Rattle.std.specs.Fmt.{decimal}
use Rattle.std.proofs.lemmas.Result.{err_from_is_err_and}
use Rattle.check_fit.specs.RuleTexts.{token_rule_text}
use Rattle.devices.proofs.Putting.{two_puts, wrote_part}
use Rattle.lines_report.proofs.Texts.{wrote_same, two_texts}
use Rattle.lines_report.proofs.verdict.put_token.Goals as goal

pub returns-in_err-put_two-clause-wrote : goal.returns-in_err-put_two-clause-wrote
returns-in_err-put_two-clause-wrote g c =
    let p = err_from_is_err_and c.from_residual.result c.from_residual.ensures.1 in
    rw p.1 (wrote_part p.0 (g.S.Sink.tells c.args.sink.now) (g.S.Sink.taken c.args.sink.now)
    (g.S.Sink.taken c.put_two.new.sink)
    (g.S.Sink.failures c.args.sink.now) (g.S.Sink.failures c.put_two.new.sink)
    (decimal c.args.token ++ codes " ") (token_rule_text c.args.rule.now)
    (wrote_same (Err p.0) (g.S.Sink.tells c.args.sink.now) (g.S.Sink.taken
    c.args.sink.now) (g.S.Sink.taken c.put_two.new.sink) (g.S.Sink.failures c.args.sink.now)
    (g.S.Sink.failures c.put_two.new.sink)
    (c.format.result.now ++ codes " ") (decimal c.args.token ++ codes " ")
    (ap (λ (t : List ℕ). t ++ codes " ") c.format.ensures.text) c.in_err-put_two.ensures.wrote))

pub returns-clause-wrote : goal.returns-clause-wrote
returns-clause-wrote g c = two_texts (two_puts g.S.Sink.tells g.S.Sink.taken g.S.Sink.failures c.args.sink.now
    c.put_two.new.sink c.put_token_rule.new.sink
    c.put_two.ensures.telling c.put_token_rule.result)
    (c.format.result.now ++ codes " ") (decimal c.args.token ++ codes " ") (token_rule_text c.args.rule.now)
    (token_rule_text c.args.rule.now)
    (ap (λ (t : List ℕ). t ++ codes " ") c.format.ensures.text) refl c.in_ok-put_two.ensures.wrote
    c.put_token_rule.ensures.wrote
