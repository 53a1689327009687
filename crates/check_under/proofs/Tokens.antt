-- Tokens pass by the entries as they count as the words about a record say.
use Rattle.std.proofs.Common.{ℕ, zero, suc, ◌≤◌, ◌+◌, List, map}
use Rattle.std.specs.Prelude.{Any}
use Rattle.cms_types.specs.AttributeValue.{AttributeValue}
use Rattle.cms_types.specs.SignerValue.{SignerValue}
use Rattle.trust_lists.specs.Entries.{EntryValue}
use Rattle.check_fit.specs.declared.rules.TokenRule.{TokenRule}
use Rattle.check_verdict.specs.Beside.{beside}
use Rattle.check_verdict.specs.Passing.{Terms, Due, StampedUnder, PassesFor}
use Rattle.check_verdict.specs.TokenRules.{TokenClaim, LeftForToken, RunsOut}
use Rattle.check_verdict.proofs.Beside.{authorities_beside}
use Rattle.check_verdict.proofs.PassesBy.{passes_by}
use Rattle.check_under.specs.TokensUnder.{beside_record, LastsUnder, PassesUnder, LeftUnder, RunsOutUnder}
use Rattle.check_under.specs.TokensUnder.{TokensPassUnder, TokensRunOutUnder}
use Rattle.check_under.proofs.Mapped.{any_of_map, any_in_map, all_of_map, all_in_map}

-- ---- an entry

module _ (t : Terms) (k m : ℕ) (s : SignerValue) (attributes : List AttributeValue) (x : EntryValue) where
  pub before : StampedUnder (beside_record k t) s attributes m (beside k x)
      → LastsUnder t s attributes m k x × (m ≤ k)
  before p =
      let h = (authorities_beside k m x p.role).0 p.period in (
        (
          record {
            role = p.role;
            matches = p.matches;
            named = p.named;
            purpose = p.purpose;
            period = h.0;
            vouched = p.vouched;
          },
          h.1,
        ),
        h.2,
      )

  pub after : m ≤ k → LastsUnder t s attributes m k x → StampedUnder (beside_record k t) s attributes m (beside k x)
  after le (p, then) = record {
    role = p.role;
    matches = p.matches;
    named = p.named;
    purpose = p.purpose;
    period = (authorities_beside k m x p.role).1 (p.period, then, le);
    vouched = p.vouched;
  }

-- ---- a token passes

module _ (t : Terms) (k : ℕ) (token : List ℕ) (due : Due) (m : ℕ) where
  lasting : (s : SignerValue) (attributes : List AttributeValue)
      → Any (StampedUnder (beside_record k t) s attributes m) (map (beside k) t.trust)
      → Any (λ x. LastsUnder t s attributes m k x × (m ≤ k)) t.trust
  lasting s attributes = any_of_map k t.trust (StampedUnder (beside_record k t) s attributes m)
      (λ x. LastsUnder t s attributes m k x × (m ≤ k)) (λ x c p. before t k m s attributes x p)

  weaker : (P Q : EntryValue → Type 0) → ((x : EntryValue) → P x → Q x) → Any P t.trust → Any Q t.trust
  weaker P Q f (i, x, within, is, p) = (i, x, within, is, f x p)

  in_time : (P : EntryValue → Type 0) → Any (λ x. P x × (m ≤ k)) t.trust → m ≤ k
  in_time P (i, x, within, is, p) = p.1

  passes_then : PassesFor (beside_record k t) token due m → PassesUnder t k token due m
  passes_then p =
      let any = lasting p.signer p.attributes p.entry in
      record {
        in_time = in_time (LastsUnder t p.signer p.attributes m k) any;
        passes = passes_by (beside_record k t) t.trust t.vouches token due m p
            (weaker (λ x. LastsUnder t p.signer p.attributes m k x × (m ≤ k))
            (StampedUnder t p.signer p.attributes m) (λ x h. h.0.0) any);
        lasts = weaker (λ x. LastsUnder t p.signer p.attributes m k x × (m ≤ k))
            (LastsUnder t p.signer p.attributes m k) (λ x h. h.0) any;
      }

  passes_if : PassesUnder t k token due m → PassesFor (beside_record k t) token due m
  passes_if h =
      let p = h.passes in
      passes_by t (map (beside k) t.trust) t.vouches token due m p
      (any_in_map k t.trust (StampedUnder (beside_record k t) p.signer p.attributes m)
      (LastsUnder t p.signer p.attributes m k) (λ x c q. after t k m p.signer p.attributes x h.in_time q) h.lasts)

pub tokens_pass_under : TokensPassUnder
tokens_pass_under t k token due m = (passes_then t k token due m, passes_if t k token due m)

-- ---- a token fails one of K10 to K14

module _ (t : Terms) (k : ℕ) (c : TokenClaim) (x : EntryValue) where
  left_then : (n : ℕ) → LeftForToken (beside_record k t) c n (beside k x) → LeftUnder t k c n x
  left_then zero p = p
  left_then (suc zero) p = p
  left_then (suc (suc zero)) p = p
  left_then (suc (suc (suc zero))) p = p
  left_then (suc (suc (suc (suc zero)))) p =
      let h = (authorities_beside k c.moment x p.0.0.0.0).0 p.1 in (p.0, h.2, h.0, h.1)
  left_then (suc (suc (suc (suc (suc n))))) p =
      let h = (authorities_beside k c.moment x p.0.0.0.0.0).0 p.0.1 in ((p.0.0, h.2, h.0, h.1), p.1)

  left_if : (n : ℕ) → LeftUnder t k c n x → LeftForToken (beside_record k t) c n (beside k x)
  left_if zero p = p
  left_if (suc zero) p = p
  left_if (suc (suc zero)) p = p
  left_if (suc (suc (suc zero))) p = p
  left_if (suc (suc (suc (suc zero)))) p =
      (p.0, (authorities_beside k c.moment x p.0.0.0.0).1 (p.2, p.3, p.1))
  left_if (suc (suc (suc (suc (suc n))))) p =
      ((p.0.0, (authorities_beside k c.moment x p.0.0.0.0.0).1 (p.0.2, p.0.3, p.0.1)), p.1)

module _ (t : Terms) (k : ℕ) (c : TokenClaim) (failed : TokenRule) where
  runs_out_then : RunsOut (beside_record k t) c failed → RunsOutUnder t k c failed
  runs_out_then r = record {
    filter = r.filter;
    stops = record {
      within = r.stops.within;
      left = λ some. any_of_map k t.trust (LeftForToken (beside_record k t) c r.filter) (LeftUnder t k c r.filter)
          (λ x among p. left_then t k c x r.filter p) (r.stops.left some);
      none = all_of_map k t.trust (λ e. LeftForToken (beside_record k t) c (r.filter + 1) e → ⊥)
          (λ x. LeftUnder t k c (r.filter + 1) x → ⊥)
          (λ x none p. none (left_if t k c x (r.filter + 1) p)) r.stops.none;
    };
    is = r.is;
  }

  runs_out_if : RunsOutUnder t k c failed → RunsOut (beside_record k t) c failed
  runs_out_if r = record {
    filter = r.filter;
    stops = record {
      within = r.stops.within;
      left = λ some. any_in_map k t.trust (LeftForToken (beside_record k t) c r.filter) (LeftUnder t k c r.filter)
          (λ x among p. left_if t k c x r.filter p) (r.stops.left some);
      none = all_in_map k t.trust (λ e. LeftForToken (beside_record k t) c (r.filter + 1) e → ⊥)
          (λ x. LeftUnder t k c (r.filter + 1) x → ⊥)
          (λ x none p. none (left_then t k c x (r.filter + 1) p)) r.stops.none;
    };
    is = r.is;
  }

pub tokens_run_out_under : TokensRunOutUnder
tokens_run_out_under t k c failed = (runs_out_then t k c failed, runs_out_if t k c failed)
