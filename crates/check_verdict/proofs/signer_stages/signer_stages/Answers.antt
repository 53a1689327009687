use Rattle.std.proofs.Common.{◌≡◌, ◌∙◌, Bool, true, List, Some, sym, subst, arith}
use Rattle.std.specs.Prelude.{Contains}
use Rattle.cms_types.specs.Fields.{sid_value}
use Rattle.cms_types.specs.AttributeValue.{AttributeValue}
use Rattle.trust_lists.specs.Asking.{Asked}
use Rattle.trust_lists.specs.Entries.{EntryValue}
use Rattle.trust_lists.specs.declared.role.Role.TheVariants.{Signer}
use Rattle.check_verdict.specs.Filters.{Best}
use Rattle.check_verdict.specs.Stages.{passed_for_signer}
use Rattle.check_names.specs.Naming.{NamesIfAny}
use Rattle.check_verdict.specs.Trusted.{asked}
use Rattle.check_verdict.specs.SignerStages.{LeftAt, IsSignersAt}
use Rattle.check_verdict.proofs.Tallies.{at_falls}
use Rattle.check_verdict.proofs.Going.{goes_further}
use Rattle.check_verdict.proofs.Found.{entry_there, best_of_found, best_of_rest}
use Rattle.check_verdict.proofs.signer_stages.signer_stages.Given.{Over}
use Rattle.check_verdict.proofs.signer_stages.signer_stages.Goals.{After-signer_stage}
use Rattle.check_verdict.proofs.signer_stages.signer_stages.Goals as goal

-- what is asked under the entry that was found may be asked
only : (g : Over) (c : After-signer_stage g) (test : Asked → Bool) (attributes : List AttributeValue)
    → c.args.signer.now.signed_attributes ≡ Some attributes
    → ((e : EntryValue) → Contains c.args.checker.now.trust e → IsSignersAt c.args.signer.now c.args.moment.now e
    → NamesIfAny attributes e.certificate → test (asked e.certificate c.args.signer.now attributes) ≡ true)
    → g.V.Verifier.asked_only test c.args.verifier.now c.signer_stage.new.verifier
only g c test attributes has asks =
    g.V.Verifier.asked_further test _ _ _ (c.loop-at.invariant.only test attributes has asks)
    (c.signer_stage.ensures.only test attributes has (asks _
    (entry_there _ _ c.trust-trust.ensures c.in-Some.at _ c.entry-entry.ensures.there)))

pub returns-in_err-failed-clause-only : goal.returns-in_err-failed-clause-only
returns-in_err-failed-clause-only g c = only g (goal.at.returns-in_err-failed-clause-only g c).After-signer_stage

pub loop-at-preserved : goal.loop-at-preserved
loop-at-preserved g c =
    let h = c.loop-at.invariant in
    record {
      within = omega (arith, c.in-Some.ensures.1);
      so_far = λ t vouches attributes has.
          rw (c.further_for_signer-best.ensures) (best_of_found (LeftAt t c.args.signer.now attributes
          c.args.moment.now) 3 c.trust-trust.result Signer
          (sid_value c.sid.result.now) c.args.signer.now.sid c.sid.ensures
          (at_falls t c.args.signer.now attributes c.args.moment.now)
          (λ x p. (p.role, p.matches)) c.loop-at.from c.in-Some.at _ _ _
          c.in-Some.ensures c.entry-entry.ensures.there (h.so_far t vouches attributes has)
          (c.in_ok-failed.ensures.stage t (vouches ∙ sym h.goes.same) attributes has));
      only = only g (goal.at.loop-at-preserved g c).After-signer_stage;
      goes = goes_further h.goes c.in_ok-failed.ensures.same c.in_ok-failed.ensures.count c.in_ok-failed.ensures.stays;
    }

pub returns-clause-stage : goal.returns-clause-stage
returns-clause-stage g c = λ t vouches attributes has.
    let h = c.loop-at.invariant in
    subst (λ (es : List EntryValue).
    Best (LeftAt t c.args.signer.now attributes c.args.moment.now) 3 es (passed_for_signer c.loop-at.best))
    c.trust-trust.ensures (best_of_rest (LeftAt t c.args.signer.now attributes c.args.moment.now) 3
    c.trust-trust.result Signer (sid_value c.sid.result.now)
    c.args.signer.now.sid c.sid.ensures (at_falls t c.args.signer.now attributes c.args.moment.now)
    (λ x p. (p.role, p.matches))
    c.loop-at.from _ h.within c.in_default.ensures (h.so_far t vouches attributes has))
