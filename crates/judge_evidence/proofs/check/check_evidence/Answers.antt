use Rattle.std.proofs.Common.{Ok, Err}
use Rattle.judge_evidence.specs.Given.{grounds_by}
use Rattle.judge_evidence.proofs.Answered.{completes}
use Rattle.judge_evidence.proofs.check.check_evidence.Goals as goal

pub returns-in-Ok-clause-complete : goal.returns-in-Ok-clause-complete
returns-in-Ok-clause-complete g c = λ ds are m s.
    let t = grounds_by c.args.trust.now (g.V.Verifier.vouches c.args.verifier.now) c.args.ends.now c.args.at
    c.args.whole in
    completes c.records_are_judged.ensures.one_moment c.records_are_judged.ensures.never_both t c.args.octets.now ds
    (Ok c.in-Ok.moment) (c.in-Ok.ensures.judged ds are) m s

pub returns-in-Err-clause-complete : goal.returns-in-Err-clause-complete
returns-in-Err-clause-complete g c = λ ds are m s.
    let t = grounds_by c.args.trust.now (g.V.Verifier.vouches c.args.verifier.now) c.args.ends.now c.args.at
    c.args.whole in
    completes c.records_are_judged.ensures.one_moment c.records_are_judged.ensures.never_both t c.args.octets.now ds
    (Err c.in-Err.refused) (c.in-Err.ensures.judged ds are) m s
