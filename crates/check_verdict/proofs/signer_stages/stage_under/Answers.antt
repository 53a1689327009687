use Rattle.std.proofs.Common.{rules, ◌≡◌, ◌∙◌, Bool, true, false, List, [], Option, Some, None, sym, ap}
use Rattle.cert_types.specs.CertificateValue.{CertificateValue}
use Rattle.std.specs.Prelude.{option_map}
use Rattle.cms_types.specs.AttributeValue.{AttributeValue}
use Rattle.trust_lists.specs.Asking.{Asked}
use Rattle.check_names.specs.Naming.{NamesIfAny}
use Rattle.check_verdict.specs.Trusted.{asked}
use Rattle.check_verdict.specs.Passing.{Terms}
use Rattle.check_verdict.specs.SignerStages.{LeftAt, IsSignersAt}
use Rattle.check_verdict.specs.declared.filter.SignerFilter.TheVariants.{SignatureFails}
use Rattle.check_verdict.proofs.StageSteps.{signer_stops, signer_is_left, comes_through, comes_short, question_of_some}
use Rattle.check_verdict.proofs.signer_stages.stage_under.Given.{Over}
use Rattle.check_verdict.proofs.signer_stages.stage_under.Goals.{After-question_of, In-Some, After-ask}
use Rattle.check_verdict.proofs.signer_stages.stage_under.Goals as goal
use Rattle.check_fit.specs.Fitting.{with_sha1}

-- these filters are the same for each verifier
any_terms : Terms
any_terms = record { policy = with_sha1 true; trust = []; vouches = λ q. true }

-- an entry for which the verifier is asked passes the filters before the last
passed : (g : Over) (c : After-question_of g) (attributes : List AttributeValue)
    → c.args.signer.now.signed_attributes ≡ Some attributes
    → IsSignersAt c.args.signer.now c.args.moment.now c.args.entry.now
    × NamesIfAny attributes c.args.entry.now.certificate
passed g c attributes has =
    let asks_now : c.failed_unasked-failed.result ≡ SignatureFails = search rules in
    signer_is_left (LeftAt any_terms c.args.signer.now attributes c.args.moment.now) c.args.entry.now
    c.failed_unasked-failed.result asks_now
    (c.failed_unasked-failed.ensures.stage any_terms c.requires.certificate attributes has)

-- the question is the one about the signer under the entry
question : (g : Over) (c : In-Some g) (attributes : List AttributeValue)
    → c.args.signer.now.signed_attributes ≡ Some attributes
    → c.in-Some.question ≡ asked c.args.entry.now.certificate c.args.signer.now attributes
question g c attributes has =
    question_of_some c.args.certificate.now c.args.signer.now attributes c.in-Some.question has
    (sym c.question_of.ensures ∙ c.in-Some.is)
    ∙ ap (λ (x : CertificateValue). asked x c.args.signer.now attributes) c.requires.certificate

-- so it is one that may be asked
only : (g : Over) (c : After-ask g) (test : Asked → Bool) (attributes : List AttributeValue)
    → c.args.signer.now.signed_attributes ≡ Some attributes
    → (IsSignersAt c.args.signer.now c.args.moment.now c.args.entry.now
    → NamesIfAny attributes c.args.entry.now.certificate
    → test (asked c.args.entry.now.certificate c.args.signer.now attributes) ≡ true)
    → g.V.Verifier.asked_only test c.args.verifier.now c.ask.new.self
only g c test attributes has asks =
    let p = passed g (goal.at.After-ask g c).After-question_of attributes has in
    c.ask.ensures.only test
    (ap test (question g (goal.at.After-ask g c).In-Some attributes has) ∙ asks p.0 p.1)

-- what the verifier says to it
said : (g : Over) (c : In-Some g) (t : Terms) → t.vouches ≡ g.V.Verifier.vouches c.args.verifier.now
    → (attributes : List AttributeValue) → c.args.signer.now.signed_attributes ≡ Some attributes
    → t.vouches (asked c.args.entry.now.certificate c.args.signer.now attributes)
    ≡ g.V.Verifier.vouches c.args.verifier.now c.in-Some.question
said g c t vouches attributes has =
    ap t.vouches (sym (question g c attributes has)) ∙ ap (λ (v : Asked → Bool). v c.in-Some.question) vouches

pub returns-then-ne-clause-stage : goal.returns-then-ne-clause-stage
returns-then-ne-clause-stage g c = λ t vouches attributes has.
    let stops : c.failed_unasked-failed.result ≡ SignatureFails → ⊥ = search rules in
    signer_stops
    (LeftAt t c.args.signer.now attributes c.args.moment.now) c.args.entry.now c.failed_unasked-failed.result stops
    (c.failed_unasked-failed.ensures.stage t c.requires.certificate attributes has)

pub returns-then-ne-clause-only : goal.returns-then-ne-clause-only
returns-then-ne-clause-only g c = λ test attributes has asks. g.V.Verifier.asked_nothing test _

pub returns-in_default-clause-stage : goal.returns-in_default-clause-stage
returns-in_default-clause-stage g c = λ t vouches attributes has.
    let z : None ≡ Some (asked c.args.certificate.now c.args.signer.now attributes) = sym c.in_default.is
    ∙ c.question_of.ensures
    ∙ ap (λ (o : Option (List AttributeValue)). option_map (asked c.args.certificate.now c.args.signer.now) o) has in
    absurd cc

pub returns-in_default-clause-only : goal.returns-in_default-clause-only
returns-in_default-clause-only g c = λ test attributes has asks. g.V.Verifier.asked_nothing test _

pub returns-in_err-ask-clause-only : goal.returns-in_err-ask-clause-only
returns-in_err-ask-clause-only g c = only g (goal.at.returns-in_err-ask-clause-only g c).After-ask

pub returns-then-branch-clause-only : goal.returns-then-branch-clause-only
returns-then-branch-clause-only g c = only g (goal.at.returns-then-branch-clause-only g c).After-ask

pub returns-else-branch-clause-only : goal.returns-else-branch-clause-only
returns-else-branch-clause-only g c = only g (goal.at.returns-else-branch-clause-only g c).After-ask

pub returns-then-branch-clause-stage : goal.returns-then-branch-clause-stage
returns-then-branch-clause-stage g c = λ t vouches attributes has.
    let at = goal.at.returns-then-branch-clause-stage g c in
    comes_through (LeftAt t c.args.signer.now attributes c.args.moment.now) 2 c.args.entry.now (
      passed g at.After-question_of attributes has,
      said g at.In-Some t vouches attributes has ∙ sym c.in_ok-ask.ensures.answer ∙ c.if-branch.true,
    )

pub returns-else-branch-clause-stage : goal.returns-else-branch-clause-stage
returns-else-branch-clause-stage g c = λ t vouches attributes has.
    let at = goal.at.returns-else-branch-clause-stage g c in
    let unvouched : t.vouches (asked c.args.entry.now.certificate c.args.signer.now attributes) ≡ false =
    said g at.In-Some t vouches attributes has ∙ sym c.in_ok-ask.ensures.answer ∙ c.if-branch.false in
    comes_short (LeftAt t c.args.signer.now attributes c.args.moment.now) 2 c.args.entry.now
    (passed g at.After-question_of attributes has)
    (λ q. let z : false ≡ true = sym unvouched ∙ q.1 in absurd cc)
