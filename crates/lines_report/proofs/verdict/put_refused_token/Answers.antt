use Rattle.std.proofs.Common.{Err, ◌++◌, refl}
use Rattle.std.specs.Prelude.{codes}
use Rattle.std.specs.Fmt.{decimal}
use Rattle.std.proofs.lemmas.Result.{err_from_is_err_and}
use Rattle.check_fit.specs.RuleTexts.{token_rule_text}
use Rattle.devices.proofs.Putting.{two_puts, wrote_part}
use Rattle.lines_report.proofs.Texts.{wrote_same, two_texts, in_parts}
use Rattle.lines_report.proofs.verdict.put_refused_token.Goals as goal

pub returns-in_err-put_signer-clause-wrote : goal.returns-in_err-put_signer-clause-wrote
returns-in_err-put_signer-clause-wrote g c =
    let p = err_from_is_err_and c.from_residual.result c.from_residual.ensures.1 in
    rw p.1 (wrote_same (Err p.0) (g.S.Sink.tells c.args.sink.now) (g.S.Sink.taken c.args.sink.now)
    (g.S.Sink.taken c.put_signer.new.sink)
    (g.S.Sink.failures c.args.sink.now) (g.S.Sink.failures c.put_signer.new.sink)
    ((codes "refused signer " ++ decimal c.args.signer ++ codes " token ")
    ++ (decimal c.args.token ++ codes " " ++ token_rule_text c.args.rule.now))
    (codes "refused signer " ++ decimal c.args.signer ++ codes " token " ++ decimal c.args.token ++ codes " "
    ++ token_rule_text c.args.rule.now)
    (in_parts (codes "refused signer " ++ decimal c.args.signer ++ codes " token ") (decimal c.args.token) (codes " ")
    (token_rule_text c.args.rule.now)) (wrote_part p.0 (g.S.Sink.tells c.args.sink.now) (g.S.Sink.taken c.args.sink.now)
    (g.S.Sink.taken c.put_signer.new.sink) (g.S.Sink.failures c.args.sink.now) (g.S.Sink.failures c.put_signer.new.sink)
    (codes "refused signer " ++ decimal c.args.signer ++ codes " token ")
    (decimal c.args.token ++ codes " " ++ token_rule_text c.args.rule.now) c.in_err-put_signer.ensures.wrote))

pub returns-clause-wrote : goal.returns-clause-wrote
returns-clause-wrote g c =
    wrote_same c.put_token.result (g.S.Sink.tells c.args.sink.now) (g.S.Sink.taken c.args.sink.now)
    (g.S.Sink.taken c.put_token.new.sink) (g.S.Sink.failures c.args.sink.now) (g.S.Sink.failures c.put_token.new.sink)
    ((codes "refused signer " ++ decimal c.args.signer ++ codes " token ")
    ++ (decimal c.args.token ++ codes " " ++ token_rule_text c.args.rule.now))
    (codes "refused signer " ++ decimal c.args.signer ++ codes " token " ++ decimal c.args.token ++ codes " "
    ++ token_rule_text c.args.rule.now)
    (in_parts (codes "refused signer " ++ decimal c.args.signer ++ codes " token ") (decimal c.args.token) (codes " ")
    (token_rule_text c.args.rule.now))
    (two_texts (two_puts g.S.Sink.tells g.S.Sink.taken g.S.Sink.failures c.args.sink.now c.put_signer.new.sink
    c.put_token.new.sink
    c.put_signer.ensures.telling c.put_token.result)
    (codes "refused signer " ++ decimal c.args.signer ++ codes " token ")
    (codes "refused signer " ++ decimal c.args.signer ++ codes " token ")
    (decimal c.args.token ++ codes " " ++ token_rule_text c.args.rule.now)
    (decimal c.args.token ++ codes " " ++ token_rule_text c.args.rule.now)
    refl refl c.in_ok-put_signer.ensures.wrote c.put_token.ensures.wrote)
