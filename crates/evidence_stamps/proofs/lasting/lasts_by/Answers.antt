use Rattle.std.proofs.Common.{◌≡◌, ◌∙◌, false, true, List, length, refl, sym, subst, arith}
use Rattle.std.specs.Prelude.{Any}
use Rattle.trust_lists.specs.Entries.{EntryValue}
use Rattle.check_verdict.proofs.Found.{stands_at, entry_among}
use Rattle.check_evidence.specs.Standing.{LastsUnder}
use Rattle.evidence_stamps.proofs.Entries.{attributes_of, one_of_them, none_so_far, none_left, passed_over}
use Rattle.evidence_stamps.proofs.lasting.lasts_by.Goals as goal

pub returns-then-branch-clause-lasts : goal.returns-then-branch-clause-lasts
returns-then-branch-clause-lasts g c = λ h trust vouches.
    let Under : EntryValue → Type 0 =
    LastsUnder h c.args.signer.now (attributes_of c.args.signer.now) c.args.moment c.args.until in
    let e = c.index-entries-at.result in
    let lasts : Under e =
    (c.in_ok-lasts_under.ensures.lasts h (vouches ∙ sym c.loop-at.invariant.same)).0 c.if-branch.true in
    let is = stands_at c.entries.result.now c.args.trust.now c.entries.ensures c.in-Some.at e c.index-entries-at.is in (
      λ yes. subst (λ (es : List EntryValue). Any Under es) (sym trust)
          (one_of_them Under c.args.trust.now c.in-Some.at e c.in-Some.ensures.1 is lasts),
      λ l. refl,
    )

pub loop-at-preserved : goal.loop-at-preserved
loop-at-preserved g c =
    let i = c.loop-at.invariant in
    let s = c.args.signer.now in
    let e = c.index-entries-at.result in
    let is = stands_at c.entries.result.now c.args.trust.now c.entries.ensures c.in-Some.at e c.index-entries-at.is in
    record {
      within = omega (arith, c.in-Some.ensures.1);
      none = λ h vouches.
          none_so_far (LastsUnder h s (attributes_of s) c.args.moment c.args.until) c.args.trust.now c.in-Some.at e
          c.in-Some.ensures.1 is c.loop-at.from (i.none h vouches)
          (passed_over h s (attributes_of s) c.args.moment c.args.until c.args.trust.now _ c.sid.ensures
          c.loop-at.from c.in-Some.at c.in-Some.ensures.2)
          (λ p. let z : true ≡ false =
          sym ((c.in_ok-lasts_under.ensures.lasts h (vouches ∙ sym i.same)).1 p) ∙ c.if-branch.false in absurd cc);
      only = λ test asks. g.V.Verifier.asked_further test _ _ _ (i.only test asks)
          (c.in_ok-lasts_under.ensures.only test (asks e (entry_among c.entries.result.now c.args.trust.now
          c.args.trust.now c.entries.ensures refl c.in-Some.at e c.index-entries-at.is c.in-Some.ensures.1)));
      same = c.in_ok-lasts_under.ensures.same ∙ i.same;
      count = c.in_ok-lasts_under.ensures.count ∙ i.count;
    }

pub returns-clause-lasts : goal.returns-clause-lasts
returns-clause-lasts g c = λ h trust vouches.
    let i = c.loop-at.invariant in
    let s = c.args.signer.now in
    let Under : EntryValue → Type 0 = LastsUnder h s (attributes_of s) c.args.moment c.args.until in (
      λ yes. absurd (let z : false ≡ true = yes in cc),
      λ l. absurd (none_left Under c.args.trust.now c.loop-at.from (i.none h vouches)
          (passed_over h s (attributes_of s) c.args.moment c.args.until c.args.trust.now _ c.sid.ensures
          c.loop-at.from (length c.args.trust.now) c.in_default.ensures)
          (subst (λ (es : List EntryValue). Any Under es) trust l)),
    )
