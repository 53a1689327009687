use Rattle.std.proofs.Common.{◌≡◌, ◌∙◌, List, ℕ, [], ◌∷◌, ◌++◌, refl, sym, subst, ap}
use Rattle.std.specs.Prelude.{Contains}
use Rattle.std.proofs.lemmas.List.{append_assoc, append-nil}
use Rattle.check_verdict.specs.SignerStages.{Tallied}
use Rattle.check_verdict.specs.Verdicts.{tokens}
use Rattle.check_verdict.proofs.Asks.{among_all}
use Rattle.check_verdict.proofs.Tallies.{tallied_none}
use Rattle.check_verdict.proofs.Going.{goes_further, still_terms}
use Rattle.check_verdict.proofs.tally.tally_of.Goals as goal

pub loop-token-init : goal.loop-token-init
loop-token-init g c = record {
  before = [];
  all = c.tokens-left.ensures;
  so_far = λ t is attributes has. tallied_none t c.args.signer.now attributes;
  only = λ t is content econtent_type fits test asks. g.V.Verifier.asked_nothing test _;
  goes = record { same = refl; count = refl; stays = refl };
}

pub returns-in_err-tally-clause-only : goal.returns-in_err-tally-clause-only
returns-in_err-tally-clause-only g c = λ t is content econtent_type fits test asks.
    let h = c.loop-token.invariant in
    g.V.Verifier.asked_further test _ _ _ (h.only t is content econtent_type fits test asks)
    (c.in_err-tally.ensures.only t (still_terms h.goes t is) content econtent_type fits
    (subst (λ (b : List ℕ). Contains (tokens c.args.signer.now) b) (sym c.whole.ensures)
    (among_all h.before c.in-Some.token c.in-Some.others
    (tokens c.args.signer.now) (ap (λ (xs : List (List ℕ)). h.before ++ xs) (sym c.in-Some.ensures) ∙ h.all))) test
    asks)

pub returns-clause-only : goal.returns-clause-only
returns-clause-only g c = c.loop-token.invariant.only

pub loop-token-preserved : goal.loop-token-preserved
loop-token-preserved g c =
    let h = c.loop-token.invariant in
    record {
      before = h.before ++ c.in-Some.token ∷ [];
      all = append_assoc h.before (c.in-Some.token ∷ []) c.in-Some.others
          ∙ ap (λ (xs : List (List ℕ)). h.before ++ xs) (sym c.in-Some.ensures) ∙ h.all;
      so_far = λ t is attributes has. subst (λ (b : List ℕ).
          Tallied t c.args.signer.now attributes (h.before ++ b ∷ []) c.in_ok-tally.tally) c.whole.ensures
          (c.in_ok-tally.ensures.tallied t (still_terms h.goes t is) attributes has h.before
          (h.so_far t is attributes has));
      only = λ t is content econtent_type fits test asks.
          g.V.Verifier.asked_further test _ _ _ (h.only t is content econtent_type fits test asks)
          (c.in_ok-tally.ensures.only t (still_terms h.goes t is) content econtent_type fits
          (subst (λ (b : List ℕ). Contains (tokens c.args.signer.now) b) (sym c.whole.ensures)
          (among_all h.before c.in-Some.token c.in-Some.others
          (tokens c.args.signer.now) (ap (λ (xs : List (List ℕ)). h.before ++ xs) (sym c.in-Some.ensures) ∙ h.all)))
          test asks);
      goes = goes_further h.goes c.in_ok-tally.ensures.same c.in_ok-tally.ensures.count c.in_ok-tally.ensures.stays;
    }

pub returns-clause-tallied : goal.returns-clause-tallied
returns-clause-tallied g c = λ t is attributes has.
    let h = c.loop-token.invariant in
    let all : h.before ≡ tokens c.args.signer.now = sym (append-nil h.before)
    ∙ ap (λ (xs : List (List ℕ)). h.before ++ xs)
    (sym c.in_default.ensures) ∙ h.all in
    subst (λ (xs : List (List ℕ)). Tallied t c.args.signer.now attributes xs c.loop-token.tally) all
    (h.so_far t is attributes has)
