use Rattle.std.proofs.Common.{◌≡◌, ◌∙◌, List, ℕ, [], ◌∷◌, ◌++◌, Some, Result, Err, sym, subst, ap}
use Rattle.check_fit.specs.Fitting.{Fits}
use Rattle.check_verdict.specs.Asks.{IsAskedOfToken, IsAskedOf, AsksOnly}
use Rattle.check_verdict.proofs.Asks.{asked_token, asked_at, stamped_by}
use Rattle.trust_lists.specs.Entries.{EntryValue}
use Rattle.check_verdict.specs.Filters.{Best}
use Rattle.check_verdict.specs.Stages.{passed_for_signer}
use Rattle.check_verdict.specs.Passing.{Terms, Passes}
use Rattle.check_verdict.specs.Verdicts.{tokens}
use Rattle.check_verdict.specs.TokenRules.{TokenFails}
use Rattle.check_verdict.specs.SignerStages.{LeftAt, Tallied}
use Rattle.check_fit.specs.declared.rules.TokenRefused.{TokenRefused}
use Rattle.std.specs.Prelude.{Contains}
use Rattle.check_verdict.specs.Checkers.{CheckerValue, terms_for}
use Rattle.check_verdict.specs.TokenVerdicts.{IsTokenVerdict}
use Rattle.check_verdict.specs.declared.tally.Tally.{Tally}
use Rattle.check_verdict.proofs.Tallies.{tallied_passed, tallied_failed}
use Rattle.check_verdict.proofs.tally.with_token.Given.{Over}
use Rattle.check_verdict.proofs.tally.with_token.Goals.{After-judge_token, After-signer_stages}
use Rattle.check_verdict.proofs.tally.with_token.Goals as goal

-- a token that passes does so with its moment
passes : (g : Over) (c : After-signer_stages g)
    → Passes (terms_for c.args.checker.now (g.V.Verifier.vouches c.args.verifier.now)) c.args.token.now
    c.args.signer.now.signature c.accepted.inside.moment
passes g c =
    let u : Terms = terms_for c.args.checker.now (g.V.Verifier.vouches c.args.verifier.now) in
    subst (λ (n : ℕ). Passes u c.args.token.now c.args.signer.now.signature n) (sym c.accepted.view_is)
    (subst (λ (b : List ℕ). Passes u c.args.token.now b c.in-Ok.accepted) c.signature.ensures c.in-Ok.ensures.judged)

-- about the token only questions are asked that are about the signer
asks_token : (g : Over) (c : After-judge_token g) (t : Terms)
    → t ≡ terms_for c.args.checker.now (g.V.Verifier.vouches c.args.verifier.now)
    → (content econtent_type : List ℕ) → Fits t.policy content econtent_type c.args.signer.now
    → Contains (tokens c.args.signer.now) c.args.token.now
    → AsksOnly (λ test. g.V.Verifier.asked_only test c.args.verifier.now c.judge_token.new.verifier)
    (IsAskedOf t content econtent_type c.args.signer.now)
asks_token g c t is content econtent_type fits among test asks = c.judge_token.ensures.only test
    (λ q a. asks q (asked_token t content econtent_type c.args.signer.now fits c.args.token.now among q
    (subst (λ (x : Terms). IsAskedOfToken x.policy x.trust c.args.signer.now.signature c.args.token.now q) (sym is)
    (subst (λ (b : List ℕ). IsAskedOfToken c.args.checker.now.policy c.args.checker.now.trust b c.args.token.now q)
    c.signature.ensures a))))

-- and then under entries at its moment
asks_stages : (g : Over) (c : After-signer_stages g) (t : Terms)
    → t ≡ terms_for c.args.checker.now (g.V.Verifier.vouches c.args.verifier.now)
    → (content econtent_type : List ℕ) → Fits t.policy content econtent_type c.args.signer.now
    → Contains (tokens c.args.signer.now) c.args.token.now
    → AsksOnly (λ test. g.V.Verifier.asked_only test c.args.verifier.now c.signer_stages.new.verifier)
    (IsAskedOf t content econtent_type c.args.signer.now)
asks_stages g c t is content econtent_type fits among test asks = g.V.Verifier.asked_further test _ _ _
    (asks_token g (goal.at.After-signer_stages g c).After-judge_token t is content econtent_type fits among test asks)
    (c.signer_stages.ensures.only test fits.attributes fits.present (λ e trusted p named. asks
    _ (asked_at t content econtent_type c.args.signer.now fits e
    (subst (λ (es : List EntryValue). Contains es e)
    (ap (λ (k : CheckerValue). k.trust) c.in-Ok.ensures.stays ∙ sym (ap (λ (x : Terms). x.trust) is)) trusted) named
    c.accepted.inside.moment (stamped_by t c.args.signer.now c.args.token.now c.accepted.inside.moment among
    (subst (λ (x : Terms). Passes x c.args.token.now c.args.signer.now.signature c.accepted.inside.moment) (sym is)
    (passes g c))) p)))

pub returns-in_ok-best-in-Ok-clause-tallied : goal.returns-in_ok-best-in-Ok-clause-tallied
returns-in_ok-best-in-Ok-clause-tallied g c = λ t is attributes has before h.
    let m : ℕ = c.accepted.inside.moment in
    let best :
    Best (LeftAt t c.args.signer.now attributes (Some m)) 3 t.trust (passed_for_signer c.in_ok-best-in-Ok.best) =
    subst (λ (es : List EntryValue).
    Best (LeftAt t c.args.signer.now attributes (Some m)) 3 es (passed_for_signer c.in_ok-best-in-Ok.best))
    (ap (λ (k : CheckerValue). k.trust) c.in-Ok.ensures.stays ∙ sym (ap (λ (x : Terms). x.trust) is))
    (c.in_ok-best-in-Ok.ensures.stage t (ap (λ (x : Terms). x.vouches) is ∙ sym c.in-Ok.ensures.same) attributes has) in
    tallied_passed t c.args.signer.now attributes before c.args.token.now m
    (subst (λ (x : Terms). Passes x c.args.token.now c.args.signer.now.signature m) (sym is)
    (passes g (goal.at.returns-in_ok-best-in-Ok-clause-tallied g c).After-signer_stages))
    (passed_for_signer c.in_ok-best-in-Ok.best) best c.args.tally
    c.passed.result h c.passed.ensures.stamped c.passed.ensures.best c.passed.ensures.left c.passed.ensures.earlier

pub returns-in-Err-Rule-clause-tallied : goal.returns-in-Err-Rule-clause-tallied
returns-in-Err-Rule-clause-tallied g c = λ t is attributes has before h.
    let fails : TokenFails t c.args.token.now c.args.signer.now.signature c.in-Err-Rule.rule =
    subst (λ (b : List ℕ). TokenFails t c.args.token.now b c.in-Err-Rule.rule) c.signature.ensures
    (subst (λ (x : Terms). TokenFails x c.args.token.now c.signature.result.now c.in-Err-Rule.rule) (sym is)
    (subst (λ (x : TokenRefused).
    IsTokenVerdict (terms_for c.args.checker.now (g.V.Verifier.vouches c.args.verifier.now)) c.args.token.now
    c.signature.result.now (Err x)) c.in-Err-Rule.field-0-is
    (subst (λ (r : Result ℕ TokenRefused).
    IsTokenVerdict (terms_for c.args.checker.now (g.V.Verifier.vouches c.args.verifier.now)) c.args.token.now
    c.signature.result.now r) c.in-Err-Rule.is c.judge_token.ensures.judged))) in
    subst (λ (x : Tally). Tallied t c.args.signer.now attributes (before ++ c.args.token.now ∷ []) x)
    (sym c.failed.ensures)
    (tallied_failed t c.args.signer.now attributes before c.args.token.now c.in-Err-Rule.rule fails c.args.tally h)

pub returns-in_ok-best-in-Ok-clause-only : goal.returns-in_ok-best-in-Ok-clause-only
returns-in_ok-best-in-Ok-clause-only g c =
    asks_stages g (goal.at.returns-in_ok-best-in-Ok-clause-only g c).After-signer_stages

pub returns-in_err-best-in-Ok-clause-only : goal.returns-in_err-best-in-Ok-clause-only
returns-in_err-best-in-Ok-clause-only g c =
    asks_stages g (goal.at.returns-in_err-best-in-Ok-clause-only g c).After-signer_stages

pub returns-in-Err-Rule-clause-only : goal.returns-in-Err-Rule-clause-only
returns-in-Err-Rule-clause-only g c = asks_token g (goal.at.returns-in-Err-Rule-clause-only g c).After-judge_token

pub returns-in-Err-Device-clause-only : goal.returns-in-Err-Device-clause-only
returns-in-Err-Device-clause-only g c = asks_token g (goal.at.returns-in-Err-Device-clause-only g c).After-judge_token
