use Rattle.std.proofs.Common.{◌≡◌, ◌∙◌, ℕ, List, Bool, true, false, not, sym, subst, ap, refl}
use Rattle.digests.specs.declared.algorithm.Alg.{Alg}
use Rattle.digests.specs.Sets.{is_in}
use Rattle.digests.specs.Selection.{AreOfWanted, set_given}
use Rattle.check_fit.specs.declared.policy.Policy.{Policy}
use Rattle.check_fit.specs.Fitting.{Fits, Wants}
use Rattle.check_verdict.specs.Passing.{Terms}
use Rattle.check_verdict.specs.Asks.{IsAskedOf, AsksOnly}
use Rattle.check_verdict.specs.Checkers.{CheckerValue, terms_for}
use Rattle.check_verdict.proofs.SignerVerdicts.{passes_with, fails_with}
use Rattle.check_verdict.proofs.Acceptance.{unhashed_bad}
use Rattle.check_verdict.proofs.signer.judge_signer.Given.{Over}
use Rattle.check_verdict.proofs.signer.judge_signer.Goals.{After-tally_of}
use Rattle.check_verdict.proofs.signer.judge_signer.Goals as goal

not_true : (b : Bool) → not b ≡ true → b ≡ false
not_true true e = absurd cc
not_true false e = refl

not_false : (b : Bool) → not b ≡ false → b ≡ true
not_false true e = refl
not_false false e = absurd cc

-- the signer fits the content, if the digest that it wants is there
fits : (g : Over) (c : After-tally_of g) (t : Terms)
    → t ≡ terms_for c.args.checker.now (g.V.Verifier.vouches c.args.verifier.now) → (content : List ℕ)
    → AreOfWanted c.args.digests.now content → ((alg : Alg) → Wants c.args.checker.now.policy c.args.signer.now alg
    → is_in alg (set_given c.args.digests.now) ≡ true)
    → Fits t.policy content c.args.econtent_type.now c.args.signer.now
fits g c t is content are =
    let same : c.policy.result ≡ t.policy = c.policy.ensures ∙ sym (ap (λ (x : Terms). x.policy) is) in
    subst (λ (p : Policy). ((alg : Alg) → Wants c.args.checker.now.policy c.args.signer.now alg
    → is_in alg (set_given c.args.digests.now) ≡ true)
    → Fits p content c.args.econtent_type.now c.args.signer.now) same
    (subst (λ (p : Policy). ((alg : Alg) → Wants p c.args.signer.now alg
    → is_in alg (set_given c.args.digests.now) ≡ true)
    → Fits c.policy.result content c.args.econtent_type.now c.args.signer.now) c.policy.ensures
    (c.in_default.ensures.judged content are))

-- so only questions about it are asked of its tokens
only : (g : Over) (c : After-tally_of g) (t : Terms)
    → t ≡ terms_for c.args.checker.now (g.V.Verifier.vouches c.args.verifier.now) → (content : List ℕ)
    → AreOfWanted c.args.digests.now content → ((alg : Alg) → Wants c.args.checker.now.policy c.args.signer.now alg
    → is_in alg (set_given c.args.digests.now) ≡ true)
    → AsksOnly (λ test. g.V.Verifier.asked_only test c.args.verifier.now c.tally_of.new.verifier)
    (IsAskedOf t content c.args.econtent_type.now c.args.signer.now)
only g c t is content are provided =
    c.tally_of.ensures.only t is content c.args.econtent_type.now (fits g c t is content are provided)

pub returns-then-not-tally-clause-judged : goal.returns-then-not-tally-clause-judged
returns-then-not-tally-clause-judged g c = λ t is content are provided.
    let f = fits g (goal.at.returns-then-not-tally-clause-judged g c).After-tally_of t is content are provided in
    c.unstamped.ensures.judged t (ap (λ (x : Terms). x.trust) is
    ∙ sym (ap (λ (k : CheckerValue). k.trust) c.in-Ok.ensures.stays))
    (ap (λ (x : Terms). x.vouches) is ∙ sym c.in-Ok.ensures.same) content c.args.econtent_type.now f
    ((c.in-Ok.ensures.tallied t is f.attributes f.present).failed
    (not_true c.in-Ok.tally.is_stamped c.if-not-tally.true))

pub returns-in-Ok-signed-clause-judged : goal.returns-in-Ok-signed-clause-judged
returns-in-Ok-signed-clause-judged g c = λ t is content are provided.
    let f = fits g (goal.at.returns-in-Ok-signed-clause-judged g c).After-tally_of t is content are provided in
    passes_with t content c.args.econtent_type.now c.args.signer.now f c.in-Ok.tally
    (c.in-Ok.ensures.tallied t is f.attributes f.present)
    (not_false c.in-Ok.tally.is_stamped c.if-not-tally.false) c.in-Ok-signed.moment c.in-Ok-signed.is

pub returns-in-Err-signed-clause-judged : goal.returns-in-Err-signed-clause-judged
returns-in-Err-signed-clause-judged g c = λ t is content are provided.
    let f = fits g (goal.at.returns-in-Err-signed-clause-judged g c).After-tally_of t is content are provided in
    rw (c.rule.ensures) (fails_with t content c.args.econtent_type.now c.args.signer.now f c.in-Ok.tally
    (c.in-Ok.ensures.tallied t is f.attributes f.present)
    (not_false c.in-Ok.tally.is_stamped c.if-not-tally.false) c.in-Err-signed.failed c.in-Err-signed.is)

pub returns-in-Err-clause-only : goal.returns-in-Err-clause-only
returns-in-Err-clause-only g c = λ t is content are provided test asks. g.V.Verifier.asked_nothing test _

pub returns-in_default-tally_of-clause-only : goal.returns-in_default-tally_of-clause-only
returns-in_default-tally_of-clause-only g c =
    only g (goal.at.returns-in_default-tally_of-clause-only g c).After-tally_of

pub returns-then-not-tally-clause-only : goal.returns-then-not-tally-clause-only
returns-then-not-tally-clause-only g c = λ t is content are provided test asks.
    let at = goal.at.returns-then-not-tally-clause-only g c in
    let f = fits g at.After-tally_of t is content are provided in
    let never = ((c.in-Ok.ensures.tallied t is f.attributes f.present).failed
    (not_true c.in-Ok.tally.is_stamped c.if-not-tally.true)).0 in
    g.V.Verifier.asked_further test _ _ _ (only g at.After-tally_of t is content are provided test asks)
    (c.unstamped.ensures.only t (ap (λ (x : Terms). x.trust) is ∙ sym (ap
    (λ (k : CheckerValue). k.trust) c.in-Ok.ensures.stays)) never content c.args.econtent_type.now f test asks)

pub returns-in-Err-signed-clause-only : goal.returns-in-Err-signed-clause-only
returns-in-Err-signed-clause-only g c = only g (goal.at.returns-in-Err-signed-clause-only g c).After-tally_of

pub returns-in-Ok-signed-clause-only : goal.returns-in-Ok-signed-clause-only
returns-in-Ok-signed-clause-only g c = only g (goal.at.returns-in-Ok-signed-clause-only g c).After-tally_of

-- a signer whose digest is missing does not fit
pub returns-in-Ok-signed-clause-lacking : goal.returns-in-Ok-signed-clause-lacking
returns-in-Ok-signed-clause-lacking g c = λ alg wants missing. absurd
    (unhashed_bad c.policy.result c.args.econtent_type.now c.args.signer.now (c.in_default.ensures.lacking alg
    (subst (λ (p : Policy). Wants p c.args.signer.now alg) (sym c.policy.ensures) wants) missing))
