use Rattle.std.proofs.Common.{rules, ◌≡◌, ◌∙◌, ℕ, Bool, true, List, Some, Result, Ok, Err, refl, sym, subst}
use Rattle.std.specs.Prelude.{is_some, IsTrue, ◌↔◌}
use Rattle.digests.specs.declared.algorithm.Alg.{Alg}
use Rattle.digests.specs.Sets.{is_in}
use Rattle.check_fit.specs.declared.policy.Policy.{Policy}
use Rattle.check_fit.specs.declared.rules.Refused.{Refused}
use Rattle.check_fit.specs.Fitting.{Wants}
use Rattle.der_lists.specs.Numbers.{of_number}
use Rattle.digests.specs.Selection.{AreOfWanted, set_given}
use Rattle.cms_types.specs.SignerValue.{SignerValue}
use Rattle.check_fit.specs.FileFitting.{facts_of, placed, file_rules, signer_rules}
use Rattle.check_fit.proofs.FileLaw.{placed_from, unhashed, by_digests}
use Rattle.check_verdict.specs.Passing.{Terms}
use Rattle.check_verdict.specs.SignerVerdicts.{numbered}
use Rattle.check_verdict.specs.Checkers.{terms_for}
use Rattle.check_verdict.specs.Asks.{AsksOnly}
use Rattle.check_verdict.specs.Questions.{IsQuestion}
use Rattle.check_verdict.specs.OneSigner.{JudgesAlone, JudgesSignerAsking, ChecksSignerAsking}
use Rattle.check_verdict.proofs.Asks.{question_of_file}
use Rattle.check_verdict.proofs.Checked.{opened_by}
use Rattle.check_verdict.proofs.OneSigner.{among, rules_good, asking_of, alone_bad, hashed, wants_given}
use Rattle.check_verdict.proofs.one_signer.judge_alone.Given.{Over}
use Rattle.check_verdict.proofs.one_signer.judge_alone.Goals.{In-Some, In_ok-digests, After-judge_signer}
use Rattle.check_verdict.proofs.one_signer.judge_alone.Goals as goal

-- none of C1 to C5 refuses the file
left : (g : Over) (c : In-Some g)
    → file_rules c.in_ok-signed.ensures.0 (is_some c.args.content.now) ≡ Ok c.in_ok-signed.signed
left g c = subst (λ (b : Bool). file_rules c.in_ok-signed.ensures.0 b ≡ Ok c.in_ok-signed.signed) c.is_some.ensures
    c.in_ok-signed.ensures.2

-- and it has the signer
signer_is : (g : Over) (c : In-Some g)
    → of_number c.in_ok-signed.signed.signers c.args.number ≡ Some c.in-Some.signer
signer_is g c = subst (λ (xs : List SignerValue). of_number xs c.args.number ≡ Some c.in-Some.signer) c.signers.ensures
    (sym c.in-Some.ensures)

-- the digest that the signer wants is there
given : (g : Over) (c : In_ok-digests g) → set_given c.in_ok-digests.digests ≡ c.wanted_of.result → (alg : Alg)
    → Wants c.args.checker.now.policy c.in-Some.signer alg → is_in alg (set_given c.in_ok-digests.digests) ≡ true
given g c set = wants_given c.args.checker.now.policy c.in-Some.signer c.wanted_of.result
    (set_given c.in_ok-digests.digests) set
    (subst (λ (p : Policy). (alg : Alg) → IsTrue (is_in alg c.wanted_of.result) ↔ Wants p c.in-Some.signer alg)
    c.policy.ensures c.wanted_of.ensures)

-- what is said of the signer by the digests of a content is the verdict
judged : (g : Over) (c : After-judge_signer g) (result : Result ℕ Refused)
    → ((content : List ℕ) → AreOfWanted c.in_ok-digests.digests content
    → ((alg : Alg) → Wants c.args.checker.now.policy c.in-Some.signer alg
    → is_in alg (set_given c.in_ok-digests.digests) ≡ true)
    → JudgesAlone (terms_for c.args.checker.now (g.V.Verifier.vouches c.args.verifier.now)) content
    c.bytes.result.now c.args.number c.in-Some.signer result)
    → ChecksSignerAsking (facts_of g.S.Source.tells g.S.Source.rest g.S.Source.failures)
    (terms_for c.args.checker.now (g.V.Verifier.vouches c.args.verifier.now))
    (λ test. g.V.Verifier.asked_only test c.args.verifier.now c.judge_signer.new.verifier) c.args.number
    c.args.file.now c.args.content.now c.hash_content.new.content result
judged g c result says =
    let u : Terms = terms_for c.args.checker.now (g.V.Verifier.vouches c.args.verifier.now) in
    let reading = c.in_ok-signed.ensures in
    let v = c.in_ok-signed.signed in
    let at = goal.at.After-judge_signer g c in
    let is = signer_is g at.In-Some in (
      reading.0,
      reading.1,
      by_digests (facts_of g.S.Source.tells g.S.Source.rest g.S.Source.failures) (JudgesSignerAsking u
          (λ test. g.V.Verifier.asked_only test c.args.verifier.now c.judge_signer.new.verifier) c.args.number)
          c.wanted_of.result v
          (placed v v.encapsulated.content (is_some c.args.content.now))
          (signer_rules c.args.number reading.0 (is_some c.args.content.now))
          (placed_from reading.0 (is_some c.args.content.now) v (left g at.In-Some))
          (rules_good c.args.number reading.0 (is_some c.args.content.now) v c.in-Some.signer (left g at.In-Some) is)
          c.args.content.now c.hash_content.new.content c.in_ok-digests.digests result
          (λ content set are.
          asking_of u (λ test. g.V.Verifier.asked_only test c.args.verifier.now c.judge_signer.new.verifier)
          c.args.number content c.bytes.result.now v c.in-Some.signer result
          (c.bytes.ensures.octets ∙ c.content_type.ensures) is
          (says content are (given g at.In_ok-digests set))
          (c.judge_signer.ensures.only u refl content are (given g at.In_ok-digests set)))
          c.in_ok-digests.ensures,
    )

-- and only questions of the file are asked
only : (g : Over) (c : After-judge_signer g)
    → AsksOnly (λ test. g.V.Verifier.asked_only test c.args.verifier.now c.judge_signer.new.verifier)
    (IsQuestion c.args.checker.now.trust c.args.file.now)
only g c = λ test asks.
    let u : Terms = terms_for c.args.checker.now (g.V.Verifier.vouches c.args.verifier.now) in
    let reading = c.in_ok-signed.ensures in
    let v = c.in_ok-signed.signed in
    let at = goal.at.After-judge_signer g c in
    let h = hashed c.wanted_of.result c.in_ok-digests.digests
    (facts_of g.S.Source.tells g.S.Source.rest g.S.Source.failures) v
    (placed v v.encapsulated.content (is_some c.args.content.now)) c.args.content.now c.hash_content.new.content
    (placed_from reading.0 (is_some c.args.content.now) v (left g at.In-Some)) c.in_ok-digests.ensures in
    let encodes =
    (opened_by c.args.file.now reading.0 (is_some c.args.content.now) reading.1 v (left g at.In-Some)).0 in
    c.judge_signer.ensures.only u refl h.0 h.2 (given g at.In_ok-digests h.1) test
    (λ q a. asks q (question_of_file u c.args.file.now h.0 c.bytes.result.now v c.in-Some.signer q encodes
    (among v.signers c.args.number c.in-Some.signer (signer_is g at.In-Some)) a))

pub returns-in_err-digests-clause-asked : goal.returns-in_err-digests-clause-asked
returns-in_err-digests-clause-asked g c =
    let u : Terms = terms_for c.args.checker.now (g.V.Verifier.vouches c.args.verifier.now) in
    let reading = c.in_ok-signed.ensures in
    let v = c.in_ok-signed.signed in
    let at = goal.at.returns-in_err-digests-clause-asked g c in
    let r : c.from_residual-in_err-digests.result ≡ Err c.in_err-digests.field-0.0 = search rules in (
      reading.0,
      reading.1,
      rw (r) (unhashed (facts_of g.S.Source.tells g.S.Source.rest g.S.Source.failures)
          (JudgesSignerAsking u (λ test. g.V.Verifier.asked_only test c.args.verifier.now c.args.verifier.now)
          c.args.number) c.wanted_of.result v
          (placed v v.encapsulated.content (is_some c.args.content.now))
          (signer_rules c.args.number reading.0 (is_some c.args.content.now))
          (placed_from reading.0 (is_some c.args.content.now) v (left g at.In-Some))
          (rules_good c.args.number reading.0 (is_some c.args.content.now) v c.in-Some.signer (left g at.In-Some)
          (signer_is g at.In-Some))
          c.args.content.now c.hash_content.new.content c.in_err-digests.field-0.0 c.in_err-digests.ensures),
    )

pub returns-in-Ok-clause-asked : goal.returns-in-Ok-clause-asked
returns-in-Ok-clause-asked g c =
    judged g (goal.at.returns-in-Ok-clause-asked g c).After-judge_signer (Ok c.in-Ok.moment) (λ content are given.
    c.in-Ok.ensures.judged (terms_for c.args.checker.now (g.V.Verifier.vouches c.args.verifier.now)) refl content are
    given)

pub returns-in-Err-clause-asked : goal.returns-in-Err-clause-asked
returns-in-Err-clause-asked g c =
    let u : Terms = terms_for c.args.checker.now (g.V.Verifier.vouches c.args.verifier.now) in
    rw (c.numbered.ensures) (judged g (goal.at.returns-in-Err-clause-asked g c).After-judge_signer
    (Err (numbered c.args.number c.in-Err.refused)) (λ content are given.
    alone_bad u content c.bytes.result.now c.args.number c.in-Some.signer c.in-Err.refused
    (c.in-Err.ensures.judged u refl content are given)))

pub returns-in-Ok-clause-only : goal.returns-in-Ok-clause-only
returns-in-Ok-clause-only g c = only g (goal.at.returns-in-Ok-clause-only g c).After-judge_signer

pub returns-in-Err-clause-only : goal.returns-in-Err-clause-only
returns-in-Err-clause-only g c = only g (goal.at.returns-in-Err-clause-only g c).After-judge_signer
