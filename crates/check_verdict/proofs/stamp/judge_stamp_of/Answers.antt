use Rattle.std.proofs.Common.{◌≡◌, ap, ◌∙◌}
use Rattle.digests.specs.Messages.{digest_of}
use Rattle.digests.specs.declared.algorithm.Alg.{Alg}
use Rattle.check_verdict.specs.Passing.{Terms, of_octets, of_digest}
use Rattle.check_verdict.specs.Checkers.{terms_for}
use Rattle.check_verdict.proofs.TokenVerdicts.{asks_counted, given_of, judged_over, unasked_counted}
use Rattle.check_verdict.proofs.stamp.judge_stamp_of.Goals as goal

pub returns-in-Ok-clause-judged : goal.returns-in-Ok-clause-judged
returns-in-Ok-clause-judged g c = λ token is.
    let t : Terms = terms_for c.args.checker.now (g.V.Verifier.vouches c.args.verifier.now) in
    let (same, by, stamped, given, digested) = c.in-Ok.ensures in
    let wanted : of_octets stamped c.args.stamp.now.alg ≡ of_digest c.in-Ok.digest c.args.stamp.now.alg =
    given_of stamped c.in-Ok.digest c.args.stamp.now.alg (by ∙ c.alg.ensures)
    (digested ∙ ap (λ (a : Alg). digest_of a stamped) c.alg.ensures) in
    judged_over t token _ _ _ _ _ c.judge_stamp.result same (record {
      stamped = stamped;
      given = given;
      verdict = c.judge_stamp.ensures.judged token (of_octets stamped) is wanted;
      asks = c.judge_stamp.ensures.only token (of_octets stamped) is wanted;
    })

pub returns-in-Ok-clause-count : goal.returns-in-Ok-clause-count
returns-in-Ok-clause-count g c = asks_counted c.judge_stamp.result _ _ c.judge_stamp.ensures.device
    c.judge_stamp.ensures.count

pub returns-in-Err-clause-count : goal.returns-in-Err-clause-count
returns-in-Err-clause-count g c =
    unasked_counted (g.S.Source.tells c.args.source.now) (g.S.Source.rest c.args.source.now)
    (g.S.Source.failures c.args.source.now) (g.S.Source.failures c.digest_from.new.source)
    (g.V.Verifier.failures c.args.verifier.now) c.in-Err.fault c.in-Err.ensures
