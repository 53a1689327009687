use Rattle.std.proofs.Common.{rules, ◌≡◌, ◌∙◌, ℕ, Result, Ok, Err, ◌<◌, List, length, sym, subst, refl}
use Rattle.std.specs.Prelude.{Contains}
use Rattle.cms_types.specs.SignedDataValue.{EncodesSignedData}
use Rattle.cms_types.specs.SignerValue.{SignerValue}
use Rattle.check_fit.specs.declared.policy.Policy.{Policy}
use Rattle.check_fit.specs.declared.rules.Refused.{Refused}
use Rattle.check_fit.specs.FileFitting.{facts_of, IsReading, HasDigests, OfFile, Opens}
use Rattle.check_fit.proofs.FileLaw.{judged_open, refused_open, is_opened}
use Rattle.check_verdict.specs.Passing.{Terms}
use Rattle.check_verdict.specs.Asks.{AsksOnly}
use Rattle.check_verdict.specs.Questions.{IsQuestion}
use Rattle.check_verdict.specs.Verdicts.{JudgesSigners}
use Rattle.check_verdict.specs.Checkers.{terms_for}
use Rattle.check_verdict.specs.Checking.{JudgesAsking, ChecksAsking, IsUnread}
use Rattle.check_verdict.proofs.Asks.{question_of_file, of_signed_data}
use Rattle.check_verdict.proofs.Acceptance.{of_signed, not_unread}
use Rattle.check_verdict.proofs.file.judge_file.Given.{Over}
use Rattle.check_verdict.proofs.file.judge_file.Goals.{In_ok-signed, After-judge_signers}
use Rattle.check_verdict.proofs.file.judge_file.Goals as goal

-- the file was opened by the policy
opens : (g : Over) (c : In_ok-signed g)
    → OfFile (facts_of g.S.Source.tells g.S.Source.rest g.S.Source.failures) (Opens c.args.checker.now.policy)
    c.in_ok-signed.ensures.0 c.args.content.now c.open_file.new.content
    (Ok (c.in_ok-signed.signed, c.in_ok-signed.digests))
opens g c = subst (λ (p : Policy). OfFile (facts_of g.S.Source.tells g.S.Source.rest g.S.Source.failures) (Opens p)
    c.in_ok-signed.ensures.0 c.args.content.now c.open_file.new.content
    (Ok (c.in_ok-signed.signed, c.in_ok-signed.digests))) c.policy.ensures c.in_ok-signed.ensures.2

-- what is said of its signers by the digests of a content is the verdict
judged : (g : Over) (c : After-judge_signers g) (result : Result ℕ Refused)
    → (0 < length c.signers.result.now → (content : List ℕ)
    → HasDigests c.args.checker.now.policy content c.signers.result.now c.in_ok-signed.digests
    → JudgesSigners (terms_for c.args.checker.now (g.V.Verifier.vouches c.args.verifier.now)) content
    c.bytes.result.now c.signers.result.now result)
    → ChecksAsking (facts_of g.S.Source.tells g.S.Source.rest g.S.Source.failures)
    (terms_for c.args.checker.now (g.V.Verifier.vouches c.args.verifier.now))
    (λ test. g.V.Verifier.asked_only test c.args.verifier.now c.judge_signers.new.verifier)
    c.args.file.now c.args.content.now c.open_file.new.content result
judged g c result says =
    let u : Terms = terms_for c.args.checker.now (g.V.Verifier.vouches c.args.verifier.now) in
    let opened = c.in_ok-signed.ensures in (
      opened.0,
      opened.1,
      judged_open (facts_of g.S.Source.tells g.S.Source.rest g.S.Source.failures) c.args.checker.now.policy
          (JudgesAsking u (λ test. g.V.Verifier.asked_only test c.args.verifier.now c.judge_signers.new.verifier))
          opened.0 c.args.content.now
          c.open_file.new.content c.in_ok-signed.signed c.in_ok-signed.digests result
          (opens g (goal.at.After-judge_signers g c).In_ok-signed)
          (λ some content has.
          let digests : HasDigests c.args.checker.now.policy content c.signers.result.now c.in_ok-signed.digests =
          subst (λ (xs : List SignerValue). HasDigests c.args.checker.now.policy content xs c.in_ok-signed.digests)
          (sym c.signers.ensures) has in
          let kind = c.bytes.ensures.octets ∙ c.content_type.ensures in (
            of_signed u content c.bytes.result.now c.signers.result.now c.in_ok-signed.signed
                result kind c.signers.ensures
                (says (subst (λ (xs : List SignerValue). 0 < length xs) (sym c.signers.ensures) some) content digests),
            of_signed_data u content c.bytes.result.now c.signers.result.now c.in_ok-signed.signed
                (λ test. g.V.Verifier.asked_only test
                c.args.verifier.now c.judge_signers.new.verifier) kind c.signers.ensures
                (c.judge_signers.ensures.only u refl content digests),
          )),
    )

-- it was read, it has a signer, and the digests are those of a content
found : (g : Over) (c : After-judge_signers g)
    → (c.in_ok-signed.ensures.0 ≡ Ok c.in_ok-signed.signed) × (0 < length c.signers.result.now) × (content : List ℕ)
    × HasDigests c.args.checker.now.policy content c.signers.result.now c.in_ok-signed.digests
found g c =
    let (read, some, (content, has)) =
    is_opened (facts_of g.S.Source.tells g.S.Source.rest g.S.Source.failures) c.args.checker.now.policy
    c.in_ok-signed.signed c.in_ok-signed.digests c.in_ok-signed.ensures.0 c.args.content.now c.open_file.new.content
    (opens g (goal.at.After-judge_signers g c).In_ok-signed) in (
      read,
      subst (λ (xs : List SignerValue). 0 < length xs) (sym c.signers.ensures) some,
      content,
      subst (λ (xs : List SignerValue). HasDigests c.args.checker.now.policy content xs c.in_ok-signed.digests)
          (sym c.signers.ensures) has,
    )

-- and only questions of the file are asked
only : (g : Over) (c : After-judge_signers g)
    → AsksOnly (λ test. g.V.Verifier.asked_only test c.args.verifier.now c.judge_signers.new.verifier)
    (IsQuestion c.args.checker.now.trust c.args.file.now)
only g c = λ test asks.
    let u : Terms = terms_for c.args.checker.now (g.V.Verifier.vouches c.args.verifier.now) in
    let (read, some, content, digests) = found g c in
    let encodes : EncodesSignedData c.args.file.now c.in_ok-signed.signed =
    subst (IsReading c.args.file.now) read c.in_ok-signed.ensures.1 in
    c.judge_signers.ensures.only u refl content digests test
    (λ s among q a.
    asks q (question_of_file u c.args.file.now content c.bytes.result.now c.in_ok-signed.signed s q encodes
    (subst (λ (xs : List SignerValue). Contains xs s) c.signers.ensures among) a))

pub returns-in_err-signed-clause-asked : goal.returns-in_err-signed-clause-asked
returns-in_err-signed-clause-asked g c =
    let u : Terms = terms_for c.args.checker.now (g.V.Verifier.vouches c.args.verifier.now) in
    let opened = c.in_err-signed.ensures in
    let r : c.from_residual.result ≡ Err c.in_err-signed.field-0.0 = search rules in (
      opened.0,
      opened.1,
      rw (r) (refused_open (facts_of g.S.Source.tells g.S.Source.rest g.S.Source.failures) c.args.checker.now.policy
          (JudgesAsking u (λ test. g.V.Verifier.asked_only test c.args.verifier.now c.args.verifier.now)) opened.0
          c.args.content.now
          c.open_file.new.content c.in_err-signed.field-0.0 (subst
          (λ (p : Policy). OfFile (facts_of g.S.Source.tells g.S.Source.rest g.S.Source.failures) (Opens p) opened.0
          c.args.content.now c.open_file.new.content (Err c.in_err-signed.field-0.0)) c.policy.ensures opened.2)),
    )

pub returns-in_err-moment-clause-asked : goal.returns-in_err-moment-clause-asked
returns-in_err-moment-clause-asked g c =
    let r : c.from_residual-in_err-moment.result ≡ Err c.in_err-moment.field-0.0 = search rules in
    rw (r) (judged g (goal.at.returns-in_err-moment-clause-asked g c).After-judge_signers
    (Err c.in_err-moment.field-0.0) (λ some content has. c.in_err-moment.ensures.judged some
    (terms_for c.args.checker.now (g.V.Verifier.vouches c.args.verifier.now)) refl content has))

pub returns-clause-asked : goal.returns-clause-asked
returns-clause-asked g c =
    judged g (goal.at.returns-clause-asked g c).After-judge_signers (Ok c.in_ok-moment.moment) (λ some content has.
    c.in_ok-moment.ensures.judged some (terms_for c.args.checker.now (g.V.Verifier.vouches c.args.verifier.now)) refl
    content has)

pub returns-in_err-signed-clause-unasked : goal.returns-in_err-signed-clause-unasked
returns-in_err-signed-clause-unasked g c = λ unread test. g.V.Verifier.asked_nothing test _

pub returns-in_err-moment-clause-unasked : goal.returns-in_err-moment-clause-unasked
returns-in_err-moment-clause-unasked g c = λ unread test.
    let u : Terms = terms_for c.args.checker.now (g.V.Verifier.vouches c.args.verifier.now) in
    let (read, some, content, digests) =
    found g (goal.at.returns-in_err-moment-clause-unasked g c).After-judge_signers in
    let r : c.from_residual-in_err-moment.result ≡ Err c.in_err-moment.field-0.0 = search rules in
    absurd (not_unread u content c.bytes.result.now c.signers.result.now (Err c.in_err-moment.field-0.0)
    (c.in_err-moment.ensures.judged some u refl content digests) (subst IsUnread r unread))

pub returns-in_err-signed-clause-only : goal.returns-in_err-signed-clause-only
returns-in_err-signed-clause-only g c = λ test asks. g.V.Verifier.asked_nothing test _

pub returns-in_err-moment-clause-only : goal.returns-in_err-moment-clause-only
returns-in_err-moment-clause-only g c = only g (goal.at.returns-in_err-moment-clause-only g c).After-judge_signers

pub returns-clause-only : goal.returns-clause-only
returns-clause-only g c = only g (goal.at.returns-clause-only g c).After-judge_signers
