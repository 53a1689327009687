use Rattle.std.proofs.Common.{◌++◌, refl, ◌∙◌}
use Rattle.std.specs.Prelude.{codes}
use Rattle.std.specs.Fmt.{decimal}
use Rattle.std.proofs.lemmas.Result.{err_from_is_err_and}
use Rattle.check_fit.specs.RuleTexts.{signer_rule_text}
use Rattle.devices.proofs.Putting.{two_puts, wrote_part}
use Rattle.lines_report.proofs.Texts.{two_texts}
use Rattle.lines_report.proofs.verdict.put_refused_signer.Goals as goal

pub returns-in_err-put_signer-clause-wrote : goal.returns-in_err-put_signer-clause-wrote
returns-in_err-put_signer-clause-wrote g c =
    let p = err_from_is_err_and c.from_residual.result c.from_residual.ensures.1 in
    rw p.1 (wrote_part p.0 (g.S.Sink.tells c.args.sink.now) (g.S.Sink.taken c.args.sink.now)
    (g.S.Sink.taken c.put_signer.new.sink)
    (g.S.Sink.failures c.args.sink.now) (g.S.Sink.failures c.put_signer.new.sink)
    (codes "refused signer " ++ decimal c.args.signer ++ codes " ")
    (signer_rule_text c.args.rule) c.in_err-put_signer.ensures.wrote)

pub returns-clause-wrote : goal.returns-clause-wrote
returns-clause-wrote g c = two_texts
    (two_puts g.S.Sink.tells g.S.Sink.taken g.S.Sink.failures c.args.sink.now c.put_signer.new.sink c.put_all.new.sink
    c.put_signer.ensures.telling c.put_all.result)
    (codes "refused signer " ++ decimal c.args.signer ++ codes " ")
    (codes "refused signer " ++ decimal c.args.signer ++ codes " ")
    c.as_bytes.result.now (signer_rule_text c.args.rule) refl
    (c.as_bytes.ensures.value ∙ c.text.ensures) c.in_ok-put_signer.ensures.wrote
    c.put_all.ensures.wrote
