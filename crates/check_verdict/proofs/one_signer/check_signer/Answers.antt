use Rattle.std.proofs.Common.{subst}
use Rattle.check_verdict.specs.TokenVerdicts.{terms_of}
use Rattle.check_verdict.specs.Checkers.{CheckerValue, terms_for}
use Rattle.check_verdict.specs.OneSigner.{ChecksSignerAsking}
use Rattle.check_verdict.proofs.OneSigner.{signer_verdict, signer_checks_from, signer_checks_suffice, signer_gives_yes}
use Rattle.std.specs.Prelude.{option_map}
use Rattle.check_verdict.proofs.one_signer.check_signer.Goals as goal
use Rattle.check_fit.specs.FileFitting.{facts_of}

pub returns-clause-asked : goal.returns-clause-asked
returns-clause-asked g c =
    subst (λ (k : CheckerValue). ChecksSignerAsking (facts_of g.S.Source.tells g.S.Source.rest g.S.Source.failures)
    (terms_for k (g.V.Verifier.vouches c.args.verifier.now))
    (λ test. g.V.Verifier.asked_only test c.args.verifier.now c.judge_alone.new.verifier)
    c.args.number c.args.file.now c.args.content.now c.judge_alone.new.content c.judge_alone.result)
    c.of-checker.ensures c.judge_alone.ensures.asked

pub returns-clause-judged : goal.returns-clause-judged
returns-clause-judged g c = signer_checks_from (facts_of g.S.Source.tells g.S.Source.rest g.S.Source.failures)
    (terms_of c.args.policy.now c.args.trust.now (g.V.Verifier.vouches c.args.verifier.now)) c.args.number
    c.args.file.now c.args.content.now
    c.judge_alone.new.content c.judge_alone.result
    (λ test. g.V.Verifier.asked_only test c.args.verifier.now c.judge_alone.new.verifier) (returns-clause-asked g c)

pub returns-clause-verdict : goal.returns-clause-verdict
returns-clause-verdict g c = λ told. signer_verdict (facts_of g.S.Source.tells g.S.Source.rest g.S.Source.failures)
    (terms_of c.args.policy.now c.args.trust.now (g.V.Verifier.vouches c.args.verifier.now)) c.args.number
    c.args.file.now c.args.content.now
    c.judge_alone.new.content c.judge_alone.result told (returns-clause-judged g c)

pub returns-clause-headline : goal.returns-clause-headline
returns-clause-headline g c =
    λ told m. signer_gives_yes (terms_of c.args.policy.now c.args.trust.now (g.V.Verifier.vouches c.args.verifier.now))
    c.args.file.now (option_map g.S.Source.rest c.args.content.now) c.args.number c.judge_alone.result m
    (returns-clause-verdict g c told)

pub returns-clause-sufficient : goal.returns-clause-sufficient
returns-clause-sufficient g c =
    λ answers agree. signer_checks_suffice (facts_of g.S.Source.tells g.S.Source.rest g.S.Source.failures)
    (terms_of c.args.policy.now c.args.trust.now (g.V.Verifier.vouches c.args.verifier.now)) c.args.number
    c.args.file.now c.args.content.now
    c.judge_alone.new.content c.judge_alone.result answers agree (returns-clause-judged g c)
