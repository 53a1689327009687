-- The verdict about a signer that fits the content, from what its tokens say together and from how far the best of the
-- trusted entries comes.
use Rattle.std.proofs.Common.{◌≡◌, ℕ, zero, suc, ◌<◌, true, List, [], Option, Some, None, Result, Ok, Err, refl, sym}
use Rattle.std.proofs.Common.{subst, ◌∙◌, arith, inl, inr}
use Rattle.std.specs.Prelude.{Any, MatchOption}
use Rattle.std.specs.Result.{result_ok, result_err}
use Rattle.cms_types.specs.AttributeValue.{AttributeValue}
use Rattle.cms_types.specs.SignerValue.{SignerValue}
use Rattle.check_fit.specs.declared.rules.SignerRule.TheVariants as rule
use Rattle.check_fit.specs.declared.rules.TokenRule.{TokenRule}
use Rattle.check_fit.specs.Fitting.{Fits}
use Rattle.trust_lists.specs.Entries.{EntryValue}
use Rattle.check_verdict.specs.Filters.{Best}
use Rattle.check_verdict.specs.Stages.{before_signer, passed_for_signer}
use Rattle.check_verdict.specs.declared.filter.SignerFilter.{SignerFilter}
use Rattle.check_verdict.specs.Passing.{Terms}
use Rattle.check_verdict.specs.Verdicts.{tokens, IsStamped, SignedUnder, IsMoment, IsLeast, SignerPasses, LeftForSigner}
use Rattle.check_verdict.specs.Verdicts.{signer_filter, SignerFails, TokensFail}
use Rattle.check_verdict.specs.SignerStages.{LeftAt, LeftBy, MomentBy, FailedBy, Tallied}
use Rattle.check_verdict.specs.declared.tally.Tally.{Tally}
use Rattle.check_verdict.proofs.Lists.{along}
use Rattle.check_verdict.proofs.Stages.{best_stops, best_left}
use Rattle.check_verdict.proofs.StageSteps.{signer_is_within}
use Rattle.check_verdict.proofs.Tallies.{best_wider}

same_attributes : (a b : List AttributeValue) (o : Option (List AttributeValue)) → o ≡ Some a → o ≡ Some b → a ≡ b
same_attributes a b o e h = let z = sym e ∙ h in cc

module _ (t : Terms) (s : SignerValue) (attributes : List AttributeValue) where
  -- ---- where a token passes

  module _ (some : (m : ℕ) × IsStamped t s m) where
    to_signer : (k : ℕ) (e : EntryValue) → LeftBy t s attributes (tokens s) k e → LeftForSigner t s attributes k e
    to_signer zero e p = tt
    to_signer (suc zero) e (m, stamped, p) =
        record { role = p.role; matches = p.matches; period = λ n k. (m, stamped, p.period) }
    to_signer (suc (suc zero)) e (m, stamped, (p, named)) =
        (record { role = p.role; matches = p.matches; period = λ n k. (m, stamped, p.period) }, named)
    to_signer (suc (suc (suc n))) e (m, stamped, ((p, named), vouched)) =
        ((record { role = p.role; matches = p.matches; period = λ n k. (m, stamped, p.period) }, named), vouched)

    of_signer : (k : ℕ) (e : EntryValue) → LeftForSigner t s attributes k e → LeftBy t s attributes (tokens s) k e
    of_signer zero e p = (some.0, some.1, tt)
    of_signer (suc zero) e p =
        let x = p.period some.0 some.1 in (x.0, x.1, record { role = p.role; matches = p.matches; period = x.2 })
    of_signer (suc (suc zero)) e (p, named) =
        let x = p.period some.0 some.1 in
        (x.0, x.1, (record { role = p.role; matches = p.matches; period = x.2 }, named))
    of_signer (suc (suc (suc n))) e ((p, named), vouched) =
        let x = p.period some.0 some.1 in
        (x.0, x.1, ((record { role = p.role; matches = p.matches; period = x.2 }, named), vouched))

    stamped_best : (n : ℕ) → Best (LeftBy t s attributes (tokens s)) 3 t.trust n
        → Best (LeftForSigner t s attributes) 3 t.trust n
    stamped_best n h =
        best_wider (LeftBy t s attributes (tokens s)) (LeftForSigner t s attributes) 3 t.trust n to_signer of_signer h

  -- ---- where none does

  module _ (never : (m : ℕ) → IsStamped t s m → ⊥) where
    to_unstamped : (k : ℕ) (e : EntryValue) → LeftAt t s attributes None k e → LeftForSigner t s attributes k e
    to_unstamped zero e p = tt
    to_unstamped (suc zero) e p = record { role = p.role; matches = p.matches; period = λ n k. absurd (never n k) }
    to_unstamped (suc (suc zero)) e (p, named) =
        (record { role = p.role; matches = p.matches; period = λ n k. absurd (never n k) }, named)
    to_unstamped (suc (suc (suc m))) e ((p, named), vouched) =
        ((record { role = p.role; matches = p.matches; period = λ n k. absurd (never n k) }, named), vouched)

    of_unstamped : (k : ℕ) (e : EntryValue) → LeftForSigner t s attributes k e → LeftAt t s attributes None k e
    of_unstamped zero e p = tt
    of_unstamped (suc zero) e p = record { role = p.role; matches = p.matches; period = tt }
    of_unstamped (suc (suc zero)) e (p, named) = (record { role = p.role; matches = p.matches; period = tt }, named)
    of_unstamped (suc (suc (suc m))) e ((p, named), vouched) =
        ((record { role = p.role; matches = p.matches; period = tt }, named), vouched)

    unstamped_best : (n : ℕ) → Best (LeftAt t s attributes None) 3 t.trust n
        → Best (LeftForSigner t s attributes) 3 t.trust n
    unstamped_best n h =
        best_wider (LeftAt t s attributes None) (LeftForSigner t s attributes) 3 t.trust n to_unstamped of_unstamped h

  -- ---- moments

  module _ (has : s.signed_attributes ≡ Some attributes) where
    to_moment : (m : ℕ) → MomentBy t s attributes (tokens s) m → IsMoment t s m
    to_moment m (stamped, any) = record {
      stamped = stamped;
      attributes = attributes;
      has = has;
      entry = along (LeftAt t s attributes (Some m) 3) (SignedUnder t s attributes m) t.trust
          (λ e c ((p, named), vouched).
          record { role = p.role; matches = p.matches; named = named; period = p.period; vouched = vouched }) any;
    }

    of_moment : (m : ℕ) → IsMoment t s m → MomentBy t s attributes (tokens s) m
    of_moment m i =
        let under : Any (SignedUnder t s attributes m) t.trust =
        subst (λ (xs : List AttributeValue). Any (SignedUnder t s xs m) t.trust)
        (same_attributes i.attributes attributes s.signed_attributes i.has has) i.entry in (
          i.stamped,
          along (SignedUnder t s attributes m) (LeftAt t s attributes (Some m) 3) t.trust
              (λ e c u. ((record { role = u.role; matches = u.matches; period = u.period }, u.named), u.vouched)) under,
        )

-- ---- the verdicts

module _ (t : Terms) (content econtent_type : List ℕ) (s : SignerValue)
    (fits : Fits t.policy content econtent_type s) where
  runs_out : (n : ℕ) → n < 3 → Best (LeftForSigner t s fits.attributes) 3 t.trust n
      → SignerFails t content econtent_type s (signer_filter n)
  runs_out n lt best = inr (inl (record {
    fits = fits;
    attributes = fits.attributes;
    has = fits.present;
    filter = n;
    stops = best_stops (LeftForSigner t s fits.attributes) 3 t.trust n lt best;
    is = refl;
  }))

  module _ (tally : Tally) (tallied : Tallied t s fits.attributes (tokens s) tally)
      (is_stamped : tally.is_stamped ≡ true) where
    -- a token passes at a moment at which an entry is left
    pub passes_with : (m : ℕ) → tally.signed ≡ Ok m → SignerPasses t content econtent_type s m
    passes_with m is =
        let least : IsLeast (MomentBy t s fits.attributes (tokens s)) m =
        subst (λ (r : Result ℕ SignerFilter). MatchOption (result_ok r)
        ((n : ℕ) → MomentBy t s fits.attributes (tokens s) n → ⊥) (IsLeast (MomentBy t s fits.attributes (tokens s))))
        is tallied.earliest in
        record {
          fits = fits;
          earliest = record {
            has = to_moment t s fits.attributes fits.present m least.has;
            least = λ n k. least.least n (of_moment t s fits.attributes fits.present n k);
          };
        }

    -- none is left at one
    pub fails_with : (filter : SignerFilter) → tally.signed ≡ Err filter
        → SignerFails t content econtent_type s (signer_filter (before_signer filter))
    fails_with filter is =
        let best : Best (LeftBy t s fits.attributes (tokens s)) 3 t.trust (before_signer filter) =
        subst (λ (r : Result ℕ SignerFilter). Best
        (LeftBy t s fits.attributes (tokens s)) 3 t.trust (passed_for_signer (result_err r))) is tallied.best in
        runs_out (before_signer filter) (signer_is_within filter)
        (stamped_best t s fits.attributes (tallied.stamped is_stamped) (before_signer filter) best)

  module _ (failed : Option TokenRule) (none : FailedBy t s (tokens s) failed) where
    -- no token passes, and no entry is left
    pub fails_unstamped : (filter : SignerFilter)
        → Best (LeftAt t s fits.attributes None) 3 t.trust (before_signer filter)
        → SignerFails t content econtent_type s (signer_filter (before_signer filter))
    fails_unstamped filter best = runs_out (before_signer filter) (signer_is_within filter)
        (unstamped_best t s fits.attributes none.0 (before_signer filter) best)

    module _ (best : Best (LeftAt t s fits.attributes None) 3 t.trust 3) where
      entry_left : Any (LeftForSigner t s fits.attributes 3) t.trust
      entry_left =
          best_left (LeftForSigner t s fits.attributes) 3 t.trust 3 (omega arith) (λ lt. absurd (omega (arith, lt)))
          (unstamped_best t s fits.attributes none.0 3 best)

      -- an entry is left, and there is no token
      pub fails_tokenless : failed ≡ None → SignerFails t content econtent_type s rule.NoToken
      fails_tokenless is =
          let z : tokens s ≡ [] = (subst (λ (o : Option TokenRule). FailedBy t s (tokens s) o) is none).1 in
          inr (inr
          (record { fits = fits; attributes = fits.attributes; has = fits.present; entry = entry_left }, z, refl))

      -- or the first one fails
      pub fails_token : (r : TokenRule) → failed ≡ Some r → TokensFail t content econtent_type s 1 r
      fails_token r is =
          let first = (subst (λ (o : Option TokenRule). FailedBy t s (tokens s) o) is none).1 in
          record {
            signs = record { fits = fits; attributes = fits.attributes; has = fits.present; entry = entry_left };
            none = none.0;
            first = first.0;
            others = first.1;
            are = first.2;
            is_first = refl;
            fails = first.3;
          }
