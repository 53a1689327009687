-- What is accepted with a moment that isn't later than a record's is accepted beside the record, if each authority's
-- entry holds at its moment.
use Rattle.std.proofs.Common.{◌≡◌, ℕ, ◌≤◌, List, map, All, ap, arith}
use Rattle.std.specs.Prelude.{Any, Contains}
use Rattle.cms_types.specs.AttributeValue.{AttributeValue}
use Rattle.cms_types.specs.SignerValue.{SignerValue}
use Rattle.trust_lists.specs.Entries.{EntryValue}
use Rattle.trust_lists.specs.declared.role.Role.TheVariants.{Tsa}
use Rattle.check_verdict.specs.Trusted.{Holds}
use Rattle.check_verdict.specs.Beside.{beside}
use Rattle.check_verdict.specs.Passing.{Terms, StampedUnder, Passes, of_octets}
use Rattle.check_verdict.specs.Verdicts.{tokens, SignedUnder, IsMoment, SignerPasses}
use Rattle.check_verdict.specs.Verdicts.{Accepts}
use Rattle.check_verdict.proofs.Beside.{signers_beside}
use Rattle.check_verdict.proofs.Lists.{at, along, all-along}
use Rattle.check_under.specs.TokensUnder.{beside_record, LastsUnder}
use Rattle.check_under.specs.Laws.{AcceptedBeside, AcceptedUnder}
use Rattle.check_under.proofs.Mapped.{any_of_map, any_in_map}
use Rattle.check_under.proofs.Tokens.{tokens_pass_under}

abbrev pub HoldsThen : (k : ℕ) → EntryValue → Type 0
HoldsThen k e = e.role ≡ Tsa → Holds e k

module _ (t : Terms) (k : ℕ) (all : All (HoldsThen k) t.trust) where
  -- a token
  lasts : (s : SignerValue) (attributes : List AttributeValue) (m : ℕ) → Any (StampedUnder t s attributes m) t.trust
      → Any (LastsUnder t s attributes m k) t.trust
  lasts s attributes m = along (StampedUnder t s attributes m) (LastsUnder t s attributes m k) t.trust
      (λ e among p. (p, at (HoldsThen k) t.trust e all among p.role))

  passes_beside : (token stamped : List ℕ) (m : ℕ) → m ≤ k → Passes t token stamped m
      → Passes (beside_record k t) token stamped m
  passes_beside token stamped m le p = (tokens_pass_under t k token (of_octets stamped) m).1 (record {
    in_time = le;
    passes = p;
    lasts = lasts p.signer p.attributes m p.entry;
  })

  passes_alone : (token stamped : List ℕ) (m : ℕ) → Passes (beside_record k t) token stamped m
      → Passes t token stamped m
  passes_alone token stamped m p = ((tokens_pass_under t k token (of_octets stamped) m).0 p).passes

  -- a moment of a signer
  module _ (s : SignerValue) (m : ℕ) where
    signed_beside : (attributes : List AttributeValue) → Any (SignedUnder t s attributes m) t.trust
        → Any (SignedUnder (beside_record k t) s attributes m) (map (beside k) t.trust)
    signed_beside attributes = any_in_map k t.trust (SignedUnder (beside_record k t) s attributes m)
        (SignedUnder t s attributes m) (λ x among p. record {
          role = p.role;
          matches = p.matches;
          named = p.named;
          period = (signers_beside k m x p.role).1 p.period;
          vouched = p.vouched;
        })

    signed_alone : (attributes : List AttributeValue)
        → Any (SignedUnder (beside_record k t) s attributes m) (map (beside k) t.trust)
        → Any (SignedUnder t s attributes m) t.trust
    signed_alone attributes = any_of_map k t.trust (SignedUnder (beside_record k t) s attributes m)
        (SignedUnder t s attributes m) (λ x among p. record {
          role = p.role;
          matches = p.matches;
          named = p.named;
          period = (signers_beside k m x p.role).0 p.period;
          vouched = p.vouched;
        })

    moment_beside : m ≤ k → IsMoment t s m → IsMoment (beside_record k t) s m
    moment_beside le h = record {
      stamped = along (λ token. Passes t token s.signature m) (λ token. Passes (beside_record k t) token s.signature m)
          (tokens s) (λ token among p. passes_beside token s.signature m le p) h.stamped;
      attributes = h.attributes;
      has = h.has;
      entry = signed_beside h.attributes h.entry;
    }

    moment_alone : IsMoment (beside_record k t) s m → IsMoment t s m
    moment_alone h = record {
      stamped = along (λ token. Passes (beside_record k t) token s.signature m) (λ token. Passes t token s.signature m)
          (tokens s) (λ token among p. passes_alone token s.signature m p) h.stamped;
      attributes = h.attributes;
      has = h.has;
      entry = signed_alone h.attributes h.entry;
    }

  module _ (content econtent_type : List ℕ) where
    -- a signer
    signer_beside : (s : SignerValue) (n : ℕ) → n ≤ k → SignerPasses t content econtent_type s n
        → SignerPasses (beside_record k t) content econtent_type s n
    signer_beside s n le p = record {
      fits = p.fits;
      earliest = record {
        has = moment_beside s n le p.earliest.has;
        least = λ x h. p.earliest.least x (moment_alone s x h);
      };
    }

    -- the signers
    accepts_beside : (signers : List SignerValue) (m : ℕ) → m ≤ k → Accepts t content econtent_type signers m
        → Accepts (beside_record k t) content econtent_type signers m
    accepts_beside signers m le a = record {
      each = all-along (λ s. (n : ℕ) × SignerPasses t content econtent_type s n)
          (λ s. (n : ℕ) × SignerPasses (beside_record k t) content econtent_type s n) signers
          (λ s among p. (p.0, signer_beside s p.0 (early s among p) p.1)) a.each;
      latest = record {
        has = along (λ s. SignerPasses t content econtent_type s m)
            (λ s. SignerPasses (beside_record k t) content econtent_type s m) signers
            (λ s among p. signer_beside s m le p) a.latest.has;
        greatest = λ n h. none_later n h;
      };
    }
      where
        up_to_m : (s : SignerValue) → Contains signers s → (p : (n : ℕ) × SignerPasses t content econtent_type s n)
            → p.0 ≤ m
        up_to_m s (i, within, is) (n, p) = a.latest.greatest n (i, s, within, is, p)

        early : (s : SignerValue) → Contains signers s → (p : (n : ℕ) × SignerPasses t content econtent_type s n)
            → p.0 ≤ k
        early s among p = omega (arith, le, up_to_m s among p)

        none_later : (n : ℕ) → Any (λ s. SignerPasses (beside_record k t) content econtent_type s n) signers → n ≤ m
        none_later n (i, s, within, is, h) =
            let p = at (λ s. (n : ℕ) × SignerPasses t content econtent_type s n) signers s a.each (i, within, is) in
            let first : n ≤ p.0 = h.earliest.least p.0
            (moment_beside s p.0 (early s (i, within, is) p) p.1.earliest.has) in
            omega (arith, first, up_to_m s (i, within, is) p)

pub accepted_beside : AcceptedBeside
accepted_beside t k file handed m all le y = record {
  signed = y.signed;
  encodes = y.encodes;
  content = y.content;
  is_content = y.is_content;
  accepts = accepts_beside t k all y.content y.signed.encapsulated.content_type y.signed.signers m le y.accepts;
}

pub accepted_under : AcceptedUnder
accepted_under g octets file handed t k m shows allows trust vouches all le y = record {
  terms = beside_record k t;
  under = record {
    shown = k;
    shows = shows;
    allows = allows;
    trust = ap (λ (es : List EntryValue). map (beside k) es) trust;
    vouches = vouches;
  };
  yes = accepted_beside t k file handed m all le y;
}
