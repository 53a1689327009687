use Rattle.std.proofs.Common.{◌≡◌, ◌∙◌, List, sym, ap, subst, arith}
use Rattle.cms_types.specs.Fields.{sid_value}
use Rattle.trust_lists.specs.Entries.{EntryValue}
use Rattle.trust_lists.specs.declared.role.Role.TheVariants.{Tsa}
use Rattle.check_verdict.specs.Filters.{Best}
use Rattle.check_verdict.specs.Stages.{passed_for_token}
use Rattle.check_verdict.specs.TokenRules.{TokenClaim, LeftForToken}
use Rattle.check_verdict.proofs.Tokens.{falls}
use Rattle.check_verdict.proofs.Going.{goes_further}
use Rattle.check_verdict.proofs.Found.{entry_there, best_of_found, best_of_rest}
use Rattle.check_verdict.proofs.token_stages.token_stages.Goals as goal

pub loop-at-preserved : goal.loop-at-preserved
loop-at-preserved g c =
    let h = c.loop-at.invariant in
    let sid : sid_value c.sid.result.now ≡ c.args.claim.now.signer.sid = c.sid.ensures
    ∙ ap (λ (x : TokenClaim). x.signer.sid) c.claim.view_is in
    record {
      within = omega (arith, c.in-Some.ensures.1);
      so_far = λ t vouches. rw (c.further_for_token-best.ensures)
          (best_of_found (LeftForToken t c.args.claim.now) 5 c.trust-trust.result Tsa
          (sid_value c.sid.result.now) c.args.claim.now.signer.sid sid (falls t c.args.claim.now)
          (λ x p. p) c.loop-at.from c.in-Some.at _ _ _ c.in-Some.ensures c.entry-entry.ensures.there
          (h.so_far t vouches) (c.in_ok-failed.ensures.stage t (vouches ∙ sym h.goes.same)));
      only = λ test asks. g.V.Verifier.asked_further test _ _ _ (h.only test asks) (c.in_ok-failed.ensures.only test
          (asks _ (entry_there _ _ c.trust-trust.ensures c.in-Some.at _ c.entry-entry.ensures.there)));
      goes = goes_further h.goes c.in_ok-failed.ensures.same c.in_ok-failed.ensures.count c.in_ok-failed.ensures.stays;
    }

pub returns-clause-stage : goal.returns-clause-stage
returns-clause-stage g c = λ t vouches.
    let h = c.loop-at.invariant in
    let sid : sid_value c.sid.result.now ≡ c.args.claim.now.signer.sid = c.sid.ensures
    ∙ ap (λ (x : TokenClaim). x.signer.sid) c.claim.view_is in
    subst (λ (es : List EntryValue). Best (LeftForToken t c.args.claim.now) 5 es (passed_for_token c.loop-at.best))
    c.trust-trust.ensures
    (best_of_rest (LeftForToken t c.args.claim.now) 5 c.trust-trust.result Tsa
    (sid_value c.sid.result.now) c.args.claim.now.signer.sid sid
    (falls t c.args.claim.now) (λ x p. p) c.loop-at.from _ h.within c.in_default.ensures (h.so_far t vouches))
