use Rattle.std.proofs.Common.{rules, ◌≡◌, ◌∙◌, Bool, true, false, [], sym, subst, ap}
use Rattle.cert_types.specs.CertificateValue.{CertificateValue}
use Rattle.trust_lists.specs.Asking.{Asked}
use Rattle.check_names.specs.Naming.{MustName}
use Rattle.check_verdict.specs.Trusted.{asked}
use Rattle.check_verdict.specs.Passing.{Terms}
use Rattle.check_verdict.specs.TokenRules.{TokenClaim, LeftForToken, IsInPeriod}
use Rattle.check_verdict.specs.declared.filter.TokenFilter.TheVariants.{SignatureFails}
use Rattle.check_verdict.proofs.StageSteps.{token_stops, token_is_left, comes_through, comes_short, question_is}
use Rattle.check_verdict.proofs.StageSteps.{unnamed}
use Rattle.check_verdict.proofs.token_stages.stage_under.Given.{Over}
use Rattle.check_verdict.proofs.token_stages.stage_under.Goals.{After-question_of, In-Some, After-ask}
use Rattle.check_verdict.proofs.token_stages.stage_under.Goals as goal
use Rattle.check_fit.specs.Fitting.{with_sha1}

-- these filters are the same for each verifier
any_terms : Terms
any_terms = record { policy = with_sha1 true; trust = []; vouches = λ q. true }

-- an entry for which the verifier is asked passes the filters before the last
passed : (g : Over) (c : After-question_of g) → IsInPeriod c.args.claim.now c.args.entry.now
passed g c =
    let asks_now : c.failed_unasked-failed.result ≡ SignatureFails = search rules in
    token_is_left (LeftForToken any_terms c.args.claim.now) c.args.entry.now
    c.failed_unasked-failed.result asks_now (c.failed_unasked-failed.ensures.stage any_terms c.requires.certificate)

-- the question is the one about the token's signer under the entry
question : (g : Over) (c : In-Some g)
    → c.in-Some.question ≡ asked c.args.entry.now.certificate c.args.claim.now.signer c.args.claim.now.attributes
question g c =
    question_is c.args.certificate.now c.claim.inside.signer c.in-Some.question
    (sym c.question_of.ensures ∙ c.in-Some.is)
    ∙ ap (λ (x : TokenClaim). asked c.args.certificate.now x.signer x.attributes) c.claim.view_is
    ∙ ap (λ (x : CertificateValue). asked x c.args.claim.now.signer c.args.claim.now.attributes)
    c.requires.certificate

-- so it is one that may be asked
only : (g : Over) (c : After-ask g) (test : Asked → Bool) → (IsInPeriod c.args.claim.now c.args.entry.now
    → test (asked c.args.entry.now.certificate c.args.claim.now.signer c.args.claim.now.attributes) ≡ true)
    → g.V.Verifier.asked_only test c.args.verifier.now c.ask.new.self
only g c test asks = c.ask.ensures.only test
    (ap test (question g (goal.at.After-ask g c).In-Some) ∙ asks (passed g (goal.at.After-ask g c).After-question_of))

-- what the verifier says to it
said : (g : Over) (c : In-Some g) (t : Terms) → t.vouches ≡ g.V.Verifier.vouches c.args.verifier.now
    → t.vouches (asked c.args.entry.now.certificate c.args.claim.now.signer c.args.claim.now.attributes)
    ≡ g.V.Verifier.vouches c.args.verifier.now c.in-Some.question
said g c t vouches =
    ap t.vouches (sym (question g c)) ∙ ap (λ (v : Asked → Bool). v c.in-Some.question) vouches

pub returns-then-ne-clause-stage : goal.returns-then-ne-clause-stage
returns-then-ne-clause-stage g c = λ t vouches.
    let stops : c.failed_unasked-failed.result ≡ SignatureFails → ⊥ = search rules in
    token_stops (LeftForToken t c.args.claim.now) c.args.entry.now c.failed_unasked-failed.result stops
    (c.failed_unasked-failed.ensures.stage t c.requires.certificate)

pub returns-then-ne-clause-only : goal.returns-then-ne-clause-only
returns-then-ne-clause-only g c = λ test asks. g.V.Verifier.asked_nothing test _

pub unreachable-requires : goal.unreachable-requires
unreachable-requires g c =
    unnamed c.args.certificate.now c.args.entry.now.certificate c.claim.inside.signer
    (sym c.question_of.ensures ∙ c.in_default.is)
    (subst (λ (x : TokenClaim). MustName x.attributes c.args.entry.now.certificate) (sym c.claim.view_is)
    (passed g (goal.at.unreachable-requires g c).After-question_of).0.0.1)

pub returns-in_err-ask-clause-only : goal.returns-in_err-ask-clause-only
returns-in_err-ask-clause-only g c = only g (goal.at.returns-in_err-ask-clause-only g c).After-ask

pub returns-then-branch-clause-stage : goal.returns-then-branch-clause-stage
returns-then-branch-clause-stage g c = λ t vouches.
    let at = goal.at.returns-then-branch-clause-stage g c in
    comes_through (LeftForToken t c.args.claim.now) 4 c.args.entry.now (
      passed g at.After-question_of,
      said g at.In-Some t vouches ∙ sym c.in_ok-ask.ensures.answer ∙ c.if-branch.true,
    )

pub returns-then-branch-clause-only : goal.returns-then-branch-clause-only
returns-then-branch-clause-only g c = only g (goal.at.returns-then-branch-clause-only g c).After-ask

pub returns-else-branch-clause-stage : goal.returns-else-branch-clause-stage
returns-else-branch-clause-stage g c = λ t vouches.
    let at = goal.at.returns-else-branch-clause-stage g c in
    let unvouched : t.vouches (asked c.args.entry.now.certificate c.args.claim.now.signer c.args.claim.now.attributes)
    ≡ false = said g at.In-Some t vouches ∙ sym c.in_ok-ask.ensures.answer ∙ c.if-branch.false in
    comes_short (LeftForToken t c.args.claim.now) 4 c.args.entry.now (passed g at.After-question_of)
    (λ q. let z : false ≡ true = sym unvouched ∙ q.1 in absurd cc)

pub returns-else-branch-clause-only : goal.returns-else-branch-clause-only
returns-else-branch-clause-only g c = only g (goal.at.returns-else-branch-clause-only g c).After-ask
