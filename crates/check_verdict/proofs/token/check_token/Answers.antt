use Rattle.std.proofs.Common.{◌≡◌, ℕ, Bool, true, subst}
use Rattle.trust_lists.specs.Asking.{Asked}
use Rattle.check_verdict.specs.Passing.{Passes}
use Rattle.check_verdict.specs.Asks.{IsAskedOfToken}
use Rattle.check_verdict.specs.Checkers.{CheckerValue, terms_for}
use Rattle.check_verdict.specs.TokenVerdicts.{IsTokenVerdict, PassesOrDevice}
use Rattle.check_verdict.proofs.token.check_token.Goals as goal

pub returns-clause-judged : goal.returns-clause-judged
returns-clause-judged g c = subst
    (λ (k : CheckerValue). IsTokenVerdict (terms_for k (g.V.Verifier.vouches c.args.verifier.now)) c.args.token.now
    c.args.stamped.now c.judge_token.result) c.of-checker.ensures c.judge_token.ensures.judged

pub returns-clause-complete : goal.returns-clause-complete
returns-clause-complete g c = subst
    (λ (k : CheckerValue). (m : ℕ) → Passes (terms_for k (g.V.Verifier.vouches c.args.verifier.now)) c.args.token.now
    c.args.stamped.now m → PassesOrDevice m c.judge_token.result) c.of-checker.ensures c.judge_token.ensures.complete

pub returns-clause-only : goal.returns-clause-only
returns-clause-only g c = subst
    (λ (k : CheckerValue). (test : Asked → Bool) → ((q : Asked) → IsAskedOfToken k.policy k.trust c.args.stamped.now
    c.args.token.now q → test q ≡ true) → g.V.Verifier.asked_only test c.args.verifier.now c.judge_token.new.verifier)
    c.of-checker.ensures c.judge_token.ensures.only
