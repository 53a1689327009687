-- What the tokens of a signer say together, one token after another.
use Rattle.std.proofs.Common.{◌≡◌, ℕ, zero, suc, ◌+◌, ◌<◌, ◌≤◌, max, true, false, List, [], ◌∷◌, ◌++◌, All, Option}
use Rattle.std.proofs.Common.{Some, None, Err, refl, sym, ap, subst, ◌∙◌}
use Rattle.std.proofs.Common.{arith, inl, inr, ◌⊎◌}
use Rattle.std.specs.Prelude.{Any, Contains, MatchOption}
use Rattle.std.specs.Option.{option_or}
use Rattle.std.specs.Result.{result_ok, result_err}
use Rattle.std.proofs.lemmas.Bool.{cases_lt}
use Rattle.std.proofs.lemmas.List.Elements.{Contains-append_cases}
use Rattle.cms_types.specs.AttributeValue.{AttributeValue}
use Rattle.cms_types.specs.SignerValue.{SignerValue}
use Rattle.check_fit.specs.declared.rules.TokenRule.{TokenRule}
use Rattle.trust_lists.specs.Entries.{EntryValue}
use Rattle.check_verdict.specs.Filters.{Best}
use Rattle.check_verdict.specs.Stages.{passed_for_signer}
use Rattle.check_verdict.specs.declared.filter.SignerFilter.TheVariants.{UnknownSigner}
use Rattle.check_verdict.specs.Passing.{Terms, of_octets, Passes}
use Rattle.check_verdict.specs.TokenRules.{TokenFails}
use Rattle.check_verdict.specs.Verdicts.{IsLeast}
use Rattle.check_verdict.specs.SignerStages.{LeftAt, StampedBy, LeftBy, MomentBy, FailedBy, Tallied, IsEarlier}
use Rattle.check_verdict.specs.declared.tally.Tally.{Tally}
use Rattle.check_verdict.proofs.Lists.{along, all-along, at, lowered, any_never}
use Rattle.check_verdict.proofs.Stages.{any_before, any_last, best_left}
use Rattle.check_verdict.proofs.Tokens as tokens_law

-- ---- the best of entries through filters that are two others together

pub best_wider : {E : Type 0} (A C : ℕ → E → Type 0) (total : ℕ) (es : List E) (n : ℕ)
    → ((k : ℕ) (e : E) → A k e → C k e)
    → ((k : ℕ) (e : E) → C k e → A k e) → Best A total es n → Best C total es n
best_wider A C total es n f b h = record {
  within = h.within;
  left = λ some. along (A n) (C n) es (λ e c p. f n e p) (h.left some);
  none = all-along (λ e. n < total → A (n + 1) e → ⊥) (λ e. n < total → C (n + 1) e → ⊥) es
      (λ e c no below p. no below (b (n + 1) e p)) h.none;
}

module _ {E : Type 0} (A B C : ℕ → E → Type 0) (total : ℕ) (es : List E)
    (falls_a : (k : ℕ) (e : E) → A (suc k) e → A k e) (falls_b : (k : ℕ) (e : E) → B (suc k) e → B k e)
    (of_a : (k : ℕ) (e : E) → A k e → C k e) (of_b : (k : ℕ) (e : E) → B k e → C k e)
    (cases : (k : ℕ) (e : E) → C k e → A k e ⊎ B k e) where
  below : (a b n : ℕ) → (a < total → n < total → a + 1 ≤ n + 1) → a ≤ n → b ≤ n → Best A total es a → Best B total es b
      → All (λ e. n < total → C (n + 1) e → ⊥) es
  below a b n lt la lb ha hb = all-along (λ e. a < total → A (a + 1) e → ⊥) (λ e. n < total → C (n + 1) e → ⊥) es
      (λ e c none_a under p. elim (cases (n + 1) e p) [
        | inl q ↦ none_a (omega (arith, la, under)) (lowered A falls_a (a + 1) (n + 1) e (omega (arith, la)) q)
        | inr q ↦ at (λ x. b < total → B (b + 1) x → ⊥) es e hb.none c (omega (arith, lb, under))
            (lowered B falls_b (b + 1) (n + 1) e (omega (arith, lb)) q)
      ]) ha.none

  pub best_of_both : (a b : ℕ) → Best A total es a → Best B total es b → Best C total es (max a b)
  best_of_both a b ha hb = elim (cases_lt a b) [
    | inl lt ↦ (let z : max a b ≡ b = omega (arith, lt) in subst (λ (m : ℕ). Best C total es m) (sym z) (record {
      within = hb.within;
      left = λ some. along (B b) (C b) es (λ e c p. of_b b e p) (hb.left some);
      none = below a b b (λ u w. omega (arith, lt)) (omega (arith, lt)) (omega arith) ha hb;
    }))
    | inr ge ↦ (let z : max a b ≡ a = omega (arith, ge) in subst (λ (m : ℕ). Best C total es m) (sym z) (record {
      within = ha.within;
      left = λ some. along (A a) (C a) es (λ e c p. of_a a e p) (ha.left some);
      none = below a b a (λ u w. omega arith) (omega arith) (omega (arith, ge)) ha hb;
    }))
  ]

-- ---- the filters of a signer

falls_at : (t : Terms) (s : SignerValue) (attributes : List AttributeValue) (moment : Option ℕ) (k : ℕ) (e : EntryValue)
    → LeftAt t s attributes moment (suc k) e → LeftAt t s attributes moment k e
falls_at t s attributes moment zero e p = tt
falls_at t s attributes moment (suc zero) e p = p.0
falls_at t s attributes moment (suc (suc zero)) e p = p.0
falls_at t s attributes moment (suc (suc (suc n))) e p = p

module _ (t : Terms) (s : SignerValue) (attributes : List AttributeValue) where
  pub at_falls : (moment : Option ℕ) (k : ℕ) (e : EntryValue) → LeftAt t s attributes moment (suc k) e
      → LeftAt t s attributes moment k e
  at_falls = falls_at t s attributes

  by_falls : (tokens : List (List ℕ)) (k : ℕ) (e : EntryValue) → LeftBy t s attributes tokens (suc k) e
      → LeftBy t s attributes tokens k e
  by_falls tokens k e (m, stamped, p) = (m, stamped, falls_at t s attributes (Some m) k e p)

  -- ---- one more token

  abbrev with_one : List (List ℕ) → List ℕ → List (List ℕ)
  with_one before token = before ++ token ∷ []

  stamped_more : (before : List (List ℕ)) (token : List ℕ) (m : ℕ) → StampedBy t s before m
      → StampedBy t s (with_one before token) m
  stamped_more before token m h = any_before (λ x. Passes t x s.signature m) before (token ∷ []) h

  only_one : (x y : List ℕ) → Contains (y ∷ []) x → y ≡ x
  only_one x y (zero, within, is) = is
  only_one x y (suc i, within, is) = absurd (omega (arith, within))

  stamped_cases : (before : List (List ℕ)) (token : List ℕ) (m : ℕ) → StampedBy t s (with_one before token) m
      → StampedBy t s before m ⊎ Passes t token s.signature m
  stamped_cases before token m (i, x, within, is, p) =
      elim (Contains-append_cases before (token ∷ []) x (i, within, is)) [
        | inl c ↦ inl (c.0, x, c.1, c.2, p)
        | inr c ↦ inr (subst (λ (y : List ℕ). Passes t y s.signature m) (sym (only_one x token c)) p)
      ]

  -- ---- a token that fails

  module _ (before : List (List ℕ)) (token : List ℕ) (rule : TokenRule)
      (fails : TokenFails t token s.signature rule) where
    stamped_still : (m : ℕ) → StampedBy t s (with_one before token) m → StampedBy t s before m
    stamped_still m h = elim (stamped_cases before token m h) [
      | inl k ↦ k
      | inr p ↦ absurd (tokens_law.never_both t token (of_octets s.signature) m rule p fails)
    ]

    still_earliest : (earliest : Option ℕ) → MatchOption earliest ((m : ℕ) → MomentBy t s attributes before m → ⊥)
        (IsLeast (MomentBy t s attributes before))
        → MatchOption earliest ((m : ℕ) → MomentBy t s attributes (with_one before token) m → ⊥)
        (IsLeast (MomentBy t s attributes (with_one before token)))
    still_earliest None h = λ m k. h m (stamped_still m k.0, k.1)
    still_earliest (Some n) h = record {
      has = (stamped_more before token n h.has.0, h.has.1);
      least = λ m k. h.least m (stamped_still m k.0, k.1);
    }

    still_failed : (failed : Option TokenRule) → FailedBy t s before failed
        → FailedBy t s (with_one before token) (option_or failed (Some rule))
    still_failed None h = (
      λ m k. h.0 m (stamped_still m k),
      (token, [], subst (λ (xs : List (List ℕ)). with_one xs token ≡ token ∷ []) (sym h.1) refl, fails),
    )
    still_failed (Some first) h = (
      λ m k. h.0 m (stamped_still m k),
      (h.1.0, with_one h.1.1 token, ap (λ (xs : List (List ℕ)). with_one xs token) h.1.2, h.1.3),
    )

    pub tallied_failed : (tally : Tally) → Tallied t s attributes before tally
        → Tallied t s attributes (with_one before
        token) (record {
          is_stamped = tally.is_stamped;
          signed = tally.signed;
          first_failed = option_or tally.first_failed (Some rule);
        })
    tallied_failed tally h = record {
      best = best_wider (LeftBy t s attributes before) (LeftBy t s attributes (with_one before token)) 3 t.trust
          (passed_for_signer
          (result_err tally.signed)) (λ k e p. (p.0, stamped_more before token p.0 p.1, p.2))
          (λ k e p. (p.0, stamped_still p.0 p.1, p.2)) h.best;
      earliest = still_earliest (result_ok tally.signed) h.earliest;
      stamped = λ is. let x = h.stamped is in (x.0, stamped_more before token x.0 x.1);
      failed = λ is. still_failed tally.first_failed (h.failed is);
    }

  -- ---- a token that passes

  module _ (before : List (List ℕ)) (token : List ℕ) (moment : ℕ) (passes : Passes t token s.signature moment)
      (stage : ℕ)
      (best : Best (LeftAt t s attributes (Some moment)) 3 t.trust stage) where
    abbrev after : List (List ℕ)
    after = with_one before token

    stamped_now : StampedBy t s after moment
    stamped_now = any_last (λ x. Passes t x s.signature moment) before token passes

    by_cases : (k : ℕ) (e : EntryValue) → LeftBy t s attributes after k e
        → LeftBy t s attributes before k e ⊎ LeftAt t s attributes (Some moment) k e
    by_cases k e (m, stamped, p) = elim (stamped_cases before token m stamped) [
      | inl h ↦ inl (m, h, p)
      | inr q ↦ inr (subst (λ (n : ℕ). LeftAt t s attributes (Some n) k e)
          (tokens_law.one_moment t token (of_octets s.signature) m moment q passes) p)
    ]

    passed_best : (n : ℕ) → Best (LeftBy t s attributes before) 3 t.trust n
        → Best (LeftBy t s attributes after) 3 t.trust (max n stage)
    passed_best n h = best_of_both (LeftBy t s attributes before) (LeftAt t s attributes (Some moment))
        (LeftBy t s attributes after) 3 t.trust (by_falls before) (falls_at t s attributes (Some moment))
        (λ k e p. (p.0, stamped_more before token p.0 p.1, p.2))
        (λ k e p. (moment, stamped_now, p)) by_cases n stage h best

    moment_cases : (m : ℕ) → MomentBy t s attributes after m
        → MomentBy t s attributes before m ⊎ ((m ≡ moment) × Any (LeftAt t s attributes (Some moment) 3) t.trust)
    moment_cases m (stamped, any) = elim (stamped_cases before token m stamped) [
      | inl h ↦ inl (h, any)
      | inr q ↦ (let is = tokens_law.one_moment t token (of_octets s.signature) m moment q passes in
          inr (is, subst (λ (n : ℕ). Any (LeftAt t s attributes (Some n) 3) t.trust) is any))
    ]

    moment_more : (m : ℕ) → MomentBy t s attributes before m → MomentBy t s attributes after m
    moment_more m h = (stamped_more before token m h.0, h.1)

    none_left : stage < 3 → Any (LeftAt t s attributes (Some moment) 3) t.trust → ⊥
    none_left lt any = any_never (LeftAt t s attributes (Some moment) 3) t.trust any (all-along (λ e. stage < 3
        → LeftAt t s attributes (Some moment) (stage + 1) e → ⊥)
        (λ e. LeftAt t s attributes (Some moment) 3 e → ⊥) t.trust (λ e c no p.
        no lt (lowered (LeftAt t s attributes (Some moment)) (falls_at t s attributes (Some moment)) (stage + 1) 3 e
        (omega (arith, lt)) p)) best.none)

    abbrev IsEarliest : List (List ℕ) → Option ℕ → Type 0
    IsEarliest tokens earliest =
        MatchOption earliest ((m : ℕ) → MomentBy t s attributes tokens m → ⊥) (IsLeast (MomentBy t s attributes tokens))

    -- no entry is left at its moment
    same_earliest : stage < 3 → (earliest : Option ℕ) → IsEarliest before earliest → IsEarliest after earliest
    same_earliest lt None h = λ m k. elim (moment_cases m k) [
      | inl old ↦ h m old
      | inr new ↦ none_left lt new.1
    ]
    same_earliest lt (Some n) h = record {
      has = moment_more n h.has;
      least = λ m k. elim (moment_cases m k) [
        | inl old ↦ h.least m old
        | inr new ↦ absurd (none_left lt new.1)
      ];
    }

    -- one is
    new_earliest : (stage < 3 → ⊥) → (earliest : Option ℕ) → IsEarliest before earliest → (k : ℕ)
        → IsEarlier earliest moment k → IsEarliest after (Some k)
    new_earliest over None h k is =
        let now : MomentBy t s attributes after moment =
        (stamped_now, best_left (LeftAt t s attributes (Some moment)) 3 t.trust stage (omega arith) over best) in
        record {
          has = subst (MomentBy t s attributes after) (sym is) now;
          least = λ m j. elim (moment_cases m j) [
            | inl old ↦ absurd (h m old)
            | inr new ↦ (let e = new.0 in omega (arith, is, e))
          ];
        }
    new_earliest over (Some n) h k (inl (lt, is)) =
        record {
          has = subst (MomentBy t s attributes after) (sym is) (moment_more n h.has);
          least = λ m j. elim (moment_cases m j) [
            | inl old ↦ (let le = h.least m old in omega (arith, is, le))
            | inr new ↦ (let e = new.0 in omega (arith, is, e, lt))
          ];
        }
    new_earliest over (Some n) h k (inr (ge, is)) =
        let now : MomentBy t s attributes after moment =
        (stamped_now, best_left (LeftAt t s attributes (Some moment)) 3 t.trust stage (omega arith) over best) in
        record {
          has = subst (MomentBy t s attributes after) (sym is) now;
          least = λ m j. elim (moment_cases m j) [
            | inl old ↦ (let le = h.least m old in
                elim (cases_lt n moment) [ inl less ↦ absurd (ge less) | inr over ↦ omega (arith, is, le, over) ])
            | inr new ↦ (let e = new.0 in omega (arith, is, e))
          ];
        }

    pub tallied_passed : (tally tally' : Tally) → Tallied t s attributes before tally → tally'.is_stamped ≡ true
        → passed_for_signer (result_err tally'.signed) ≡ max (passed_for_signer (result_err tally.signed)) stage
        → (stage < 3 → result_ok tally'.signed ≡ result_ok tally.signed)
        → ((stage < 3 → ⊥) → (k : ℕ) × (result_ok tally'.signed ≡ Some k) × IsEarlier (result_ok tally.signed) moment k)
        → Tallied t s attributes after tally'
    tallied_passed tally tally' h stamped_is best_is left earlier = record {
      best = rw (best_is) (passed_best (passed_for_signer (result_err tally.signed)) h.best);
      earliest = elim (cases_lt stage 3) [
        | inl lt ↦ subst (IsEarliest after) (sym (left lt)) (same_earliest lt (result_ok tally.signed) h.earliest)
        | inr ge ↦ (let over : stage < 3 → ⊥ = λ lt. absurd (omega (arith, ge, lt)) in
            let e = earlier over in
            subst (IsEarliest after) (sym e.1) (new_earliest over (result_ok tally.signed) h.earliest e.0 e.2))
      ];
      stamped = λ is. (moment, stamped_now);
      failed = λ is. absurd (let z : true ≡ false = sym stamped_is ∙ is in cc);
    }

-- ---- before any token

pub tallied_none : (t : Terms) (s : SignerValue) (attributes : List AttributeValue)
    → Tallied t s attributes [] (record { is_stamped = false; signed = Err UnknownSigner; first_failed = None })
tallied_none t s attributes = record {
  best = record {
    within = omega arith;
    left = λ lt. absurd (omega (arith, lt));
    none = λ k d lt below p. no_token p.0 p.1;
  };
  earliest = λ m k. no_token m k.0;
  stamped = λ is. absurd cc;
  failed = λ is. (no_token, refl);
}
  where
    no_token : (m : ℕ) → StampedBy t s [] m → ⊥
    no_token m (i, x, within, is, p) = absurd (omega (arith, within))
