use Rattle.rsa_keys.specs.KeyValue.{IsJudged}
use Rattle.rsa_keys.specs.KeyReading.{is_judged}
use Rattle.rsa_keys.proofs.Judging.{judged_says, same_answer}
use Rattle.rsa_keys.proofs.limits.is_judged.Goals as goal

pub returns-clause-same : goal.returns-clause-same
returns-clause-same c =
    same_answer c.is_within.result (is_judged c.args.n.now c.args.e.now) (IsJudged c.args.n.now c.args.e.now)
    c.is_within.ensures (judged_says c.args.n.now c.args.e.now)
