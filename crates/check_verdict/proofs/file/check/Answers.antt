use Rattle.std.proofs.Common.{subst}
use Rattle.check_verdict.specs.TokenVerdicts.{terms_of}
use Rattle.check_verdict.specs.Checkers.{CheckerValue, terms_for}
use Rattle.check_verdict.specs.Checking.{ChecksAsking}
use Rattle.check_verdict.proofs.Checked.{is_verdict, gives_yes, checks_suffice, checks_from}
use Rattle.check_verdict.proofs.file.check.Goals as goal
use Rattle.check_fit.specs.FileFitting.{facts_of}

pub returns-clause-asked : goal.returns-clause-asked
returns-clause-asked g c =
    subst (λ (k : CheckerValue). ChecksAsking (facts_of g.S.Source.tells g.S.Source.rest g.S.Source.failures)
    (terms_for k (g.V.Verifier.vouches c.args.verifier.now))
    (λ test. g.V.Verifier.asked_only test c.args.verifier.now c.judge_file.new.verifier)
    c.args.file.now c.args.content.now c.judge_file.new.content c.judge_file.result) c.of-checker.ensures
    c.judge_file.ensures.asked

pub returns-clause-judged : goal.returns-clause-judged
returns-clause-judged g c = checks_from (facts_of g.S.Source.tells g.S.Source.rest g.S.Source.failures)
    (terms_of c.args.policy.now c.args.trust.now (g.V.Verifier.vouches c.args.verifier.now))
    (λ test. g.V.Verifier.asked_only test c.args.verifier.now
    c.judge_file.new.verifier) c.args.file.now c.args.content.now c.judge_file.new.content c.judge_file.result
    (returns-clause-asked g c)

pub returns-clause-headline : goal.returns-clause-headline
returns-clause-headline g c = λ told. gives_yes (facts_of g.S.Source.tells g.S.Source.rest g.S.Source.failures)
    (terms_of c.args.policy.now c.args.trust.now (g.V.Verifier.vouches c.args.verifier.now)) c.args.file.now
    c.args.content.now
    c.judge_file.new.content c.judge_file.result told (returns-clause-judged g c)

pub returns-clause-verdict : goal.returns-clause-verdict
returns-clause-verdict g c = λ told. is_verdict (facts_of g.S.Source.tells g.S.Source.rest g.S.Source.failures)
    (terms_of c.args.policy.now c.args.trust.now (g.V.Verifier.vouches c.args.verifier.now)) c.args.file.now
    c.args.content.now
    c.judge_file.new.content c.judge_file.result told (returns-clause-judged g c)

pub returns-clause-sufficient : goal.returns-clause-sufficient
returns-clause-sufficient g c =
    λ answers agree. checks_suffice (facts_of g.S.Source.tells g.S.Source.rest g.S.Source.failures)
    (terms_of c.args.policy.now c.args.trust.now (g.V.Verifier.vouches c.args.verifier.now)) c.args.file.now
    c.args.content.now
    c.judge_file.new.content c.judge_file.result answers agree (returns-clause-judged g c)
