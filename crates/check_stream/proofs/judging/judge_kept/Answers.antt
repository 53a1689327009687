use Rattle.std.proofs.Common.{rules, arith, ◌≡◌, ◌∙◌, ◌<◌, ℕ, List, length, Some, Result, Ok, Err, refl, sym, subst}
use Rattle.std.proofs.lemmas.Grind.{common_steps}
use Rattle.std.specs.Prelude.{is_some}
use Rattle.digests.specs.declared.selection.WantedDigests.{WantedDigests}
use Rattle.digests.specs.Selection.{FedWanted}
use Rattle.cms_types.specs.SignerValue.{SignerValue}
use Rattle.check_fit.specs.declared.policy.Policy.{Policy}
use Rattle.check_fit.specs.declared.rules.Refused.{Refused}
use Rattle.check_fit.specs.FileFitting.{facts_of, HasDigests}
use Rattle.check_verdict.specs.Passing.{Terms}
use Rattle.check_verdict.specs.Verdicts.{JudgesSigners}
use Rattle.check_verdict.specs.Checkers.{terms_for}
use Rattle.check_verdict.specs.Checking.{JudgesAsking}
use Rattle.check_stream.specs.Hashing.{HashesWanted}
use Rattle.check_stream.specs.StreamVerdicts.{ChecksStreamAsking}
use Rattle.check_stream.proofs.Keeping.{kept_by, kept_refused, kept_failed, is_kept}
use Rattle.check_stream.specs.KeptRules.{kept_rules}
use Rattle.cms_stream.specs.Opening.{OpensStream}
use Rattle.check_stream.proofs.Verdicts.{signers_judged}
use Rattle.check_stream.proofs.Devices.{judged_read, rule_read, handed_read}
use Rattle.check_stream.proofs.judging.judge_kept.Given.{Over}
use Rattle.check_stream.proofs.judging.judge_kept.Goals.{In-Ok, After-judge_signers}
use Rattle.check_stream.proofs.judging.judge_kept.Goals as goal

-- none of C2 to C5 refuses what was kept
none_refuses : (g : Over) (c : In-Ok g) → kept_rules c.args.opened (is_some c.args.content.now) ≡ Ok c.in-Ok.opened
none_refuses g c = kept_by c.args.opened (is_some c.args.content.now) c.is_some.result c.kept.result
    (Ok c.in-Ok.opened) c.is_some.ensures c.kept.ensures c.in-Ok.is

-- so there are some signers
some_kept : (g : Over) (c : After-judge_signers g) → 0 < length c.signers-2.result.now
some_kept g c = subst (λ (xs : List SignerValue). 0 < length xs) (sym c.signers-2.ensures)
    (is_kept c.args.opened (is_some c.args.content.now) c.in-Ok.opened
    (none_refuses g (goal.at.After-judge_signers g c).In-Ok)).some

-- their verdict is that about the file
judged : (g : Over) (c : After-judge_signers g) (octets : List ℕ) (room : ℕ)
    → OpensStream (FedWanted c.args.hashers) room octets (Ok c.args.opened) → (result : Result ℕ Refused)
    → (0 < length c.signers-2.result.now → (content : List ℕ)
    → HasDigests c.args.checker.now.policy content c.signers-2.result.now c.in-Ok-2.digests
    → JudgesSigners (terms_for c.args.checker.now (g.V.Verifier.vouches c.args.verifier.now)) content
    c.content_type.result.now c.signers-2.result.now result)
    → ChecksStreamAsking (facts_of g.S.Source.tells g.S.Source.rest g.S.Source.failures)
    (terms_for c.args.checker.now (g.V.Verifier.vouches c.args.verifier.now))
    (λ test. g.V.Verifier.asked_only test c.args.verifier.now c.judge_signers.new.verifier)
    octets c.args.content.now c.hash_wanted.new.content result
judged g c octets room opens result says =
    let u : Terms = terms_for c.args.checker.now (g.V.Verifier.vouches c.args.verifier.now) in
    signers_judged (facts_of g.S.Source.tells g.S.Source.rest g.S.Source.failures) u c.args.hashers octets room
    c.args.opened c.in-Ok.opened c.args.content.now
    c.hash_wanted.new.content c.in-Ok-2.digests c.content_type.result.now c.signers-2.result.now
    result opens (none_refuses g (goal.at.After-judge_signers g c).In-Ok)
    (subst (λ (p : Policy).
    HashesWanted (facts_of g.S.Source.tells g.S.Source.rest g.S.Source.failures) p c.signers-2.result.now
    c.args.hashers c.args.content.now c.hash_wanted.new.content (Some (Ok c.in-Ok-2.digests))) c.policy.ensures
    (subst (λ (r : Result WantedDigests Refused).
    HashesWanted (facts_of g.S.Source.tells g.S.Source.rest g.S.Source.failures) c.policy.result
    c.signers-2.result.now c.args.hashers c.args.content.now c.hash_wanted.new.content (Some r)) c.in-Ok-2.is
    (subst (λ (xs : List SignerValue).
    HashesWanted (facts_of g.S.Source.tells g.S.Source.rest g.S.Source.failures) c.policy.result xs c.args.hashers
    c.args.content.now c.hash_wanted.new.content (Some c.in_ok-digests.field-0))
    (c.signers.ensures ∙ sym c.signers-2.ensures) c.in_ok-digests.ensures)))
    c.content_type.ensures c.signers-2.ensures says
    (λ test. g.V.Verifier.asked_only test c.args.verifier.now c.judge_signers.new.verifier)
    (λ content has. c.judge_signers.ensures.only u refl content has)

pub returns-in-Err-clause-asked : goal.returns-in-Err-clause-asked
returns-in-Err-clause-asked g c = λ octets room opens.
    let u : Terms = terms_for c.args.checker.now (g.V.Verifier.vouches c.args.verifier.now) in
    kept_refused (facts_of g.S.Source.tells g.S.Source.rest g.S.Source.failures)
    (JudgesAsking u (λ test. g.V.Verifier.asked_only test c.args.verifier.now c.args.verifier.now))
    (FedWanted c.args.hashers) octets room c.args.opened
    c.args.content.now c.in-Err.refused opens
    (kept_by c.args.opened (is_some c.args.content.now) c.is_some.result c.kept.result
    (Err c.in-Err.refused) c.is_some.ensures c.kept.ensures c.in-Err.is)

pub returns-in-Err-2-clause-asked : goal.returns-in-Err-2-clause-asked
returns-in-Err-2-clause-asked g c = λ octets room opens.
    let u : Terms = terms_for c.args.checker.now (g.V.Verifier.vouches c.args.verifier.now) in
    kept_failed (facts_of g.S.Source.tells g.S.Source.rest g.S.Source.failures)
    (JudgesAsking u (λ test. g.V.Verifier.asked_only test c.args.verifier.now c.args.verifier.now)) c.policy.result
    c.signers.result.now c.args.hashers
    octets room c.args.opened c.in-Ok.opened c.args.content.now
    c.hash_wanted.new.content c.in_ok-digests.field-0 c.in-Err-2.refused opens
    (none_refuses g (goal.at.returns-in-Err-2-clause-asked g c).In-Ok)
    c.signers.ensures c.in-Err-2.is c.in_ok-digests.ensures

pub returns-in-Ok-judge_signers-clause-asked : goal.returns-in-Ok-judge_signers-clause-asked
returns-in-Ok-judge_signers-clause-asked g c = λ octets room opens.
    judged g (goal.at.returns-in-Ok-judge_signers-clause-asked g c).After-judge_signers octets room opens
    (Ok c.in-Ok-judge_signers.moment) (λ some content has. c.in-Ok-judge_signers.ensures.judged some
    (terms_for c.args.checker.now (g.V.Verifier.vouches c.args.verifier.now)) refl content has)

pub returns-in-Err-judge_signers-clause-asked : goal.returns-in-Err-judge_signers-clause-asked
returns-in-Err-judge_signers-clause-asked g c = λ octets room opens.
    judged g (goal.at.returns-in-Err-judge_signers-clause-asked g c).After-judge_signers octets room opens
    (Err c.in-Err-judge_signers.refused) (λ some content has. c.in-Err-judge_signers.ensures.judged some
    (terms_for c.args.checker.now (g.V.Verifier.vouches c.args.verifier.now)) refl content has)

pub returns-in-Err-clause-devices : goal.returns-in-Err-clause-devices
returns-in-Err-clause-devices g c = rule_read
    (facts_of g.S.Source.tells g.S.Source.rest g.S.Source.failures) c.args.opened c.args.content.now c.in-Err.refused
    (kept_by c.args.opened (is_some c.args.content.now) c.is_some.result c.kept.result
    (Err c.in-Err.refused) c.is_some.ensures c.kept.ensures c.in-Err.is)

pub returns-in-Err-2-clause-devices : goal.returns-in-Err-2-clause-devices
returns-in-Err-2-clause-devices g c =
    handed_read (facts_of g.S.Source.tells g.S.Source.rest g.S.Source.failures) c.policy.result c.signers.result.now
    c.args.hashers c.args.content.now
    c.hash_wanted.new.content c.in_ok-digests.field-0 (Err c.in-Err-2.refused)
    (λ e is. let z = sym c.in-Err-2.is ∙ is in cc)
    (λ digests is. absurd (let z = sym c.in-Err-2.is ∙ is in cc)) c.in_ok-digests.ensures

pub returns-in-Ok-judge_signers-clause-devices : goal.returns-in-Ok-judge_signers-clause-devices
returns-in-Ok-judge_signers-clause-devices g c =
    handed_read (facts_of g.S.Source.tells g.S.Source.rest g.S.Source.failures) c.policy.result c.signers.result.now
    c.args.hashers c.args.content.now
    c.hash_wanted.new.content c.in_ok-digests.field-0 (Ok c.in-Ok-judge_signers.moment)
    (λ e is. absurd (let z = sym c.in-Ok-2.is ∙ is in cc)) (λ digests is. (0, tt)) c.in_ok-digests.ensures

-- whatever the digests are, the verdict about some signers
pub returns-in-Err-judge_signers-clause-devices : goal.returns-in-Err-judge_signers-clause-devices
returns-in-Err-judge_signers-clause-devices g c =
    let some = some_kept g (goal.at.returns-in-Err-judge_signers-clause-devices g c).After-judge_signers in
    handed_read (facts_of g.S.Source.tells g.S.Source.rest g.S.Source.failures) c.policy.result c.signers.result.now
    c.args.hashers c.args.content.now
    c.hash_wanted.new.content c.in_ok-digests.field-0 (Err c.in-Err-judge_signers.refused)
    (λ e is. absurd (let z = sym c.in-Ok-2.is ∙ is in cc))
    (λ digests is. (length c.signers-2.result.now, c.in-Err-judge_signers.ensures.kind some))
    c.in_ok-digests.ensures

pub returns-in-Err-judge_signers-clause-asks : goal.returns-in-Err-judge_signers-clause-asks
returns-in-Err-judge_signers-clause-asks g c = record {
  unasked = λ unread test.
      let some = some_kept g (goal.at.returns-in-Err-judge_signers-clause-asks g c).After-judge_signers in
      absurd (judged_read (length c.signers-2.result.now) (Err c.in-Err-judge_signers.refused)
      (c.in-Err-judge_signers.ensures.kind some) unread);
  same = first_of (search rules, grind (arith, common_steps));
  count = first_of (search rules, grind (arith, common_steps));
}
