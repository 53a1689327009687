use Rattle.judge_evidence.proofs.Asked.{no_lapse}
use Rattle.judge_evidence.proofs.walk.found_of.Goals as goal

pub returns-in-Ok-clause-judged : goal.returns-in-Ok-clause-judged
returns-in-Ok-clause-judged g c = λ ds f none. c.in-Ok.ensures.judged ds f

pub returns-then-is_some-clause-only : goal.returns-then-is_some-clause-only
returns-then-is_some-clause-only g c = λ ds f test tests. g.V.Verifier.asked_nothing test _

pub returns-in-Ok-clause-only : goal.returns-in-Ok-clause-only
returns-in-Ok-clause-only g c = λ ds f test tests.
    c.found_at.ensures.only ds f test (λ q about. tests q
    (no_lapse c.args.run.now.lapsed c.is_some.result c.is_some.ensures c.if-is_some.false, about))

pub returns-in-Err-clause-only : goal.returns-in-Err-clause-only
returns-in-Err-clause-only g c = λ ds f test tests.
    c.found_at.ensures.only ds f test (λ q about. tests q
    (no_lapse c.args.run.now.lapsed c.is_some.result c.is_some.ensures c.if-is_some.false, about))
