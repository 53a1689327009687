-- A file isn't accepted under a record with a moment that is later than the record's.
use Rattle.std.proofs.Common.{◌≡◌, ◌∙◌, ℕ, ◌≤◌, List, map, sym, subst, ap}
use Rattle.std.specs.Prelude.{Any, Contains}
use Rattle.cms_types.specs.AttributeValue.{AttributeValue}
use Rattle.cms_types.specs.SignerValue.{SignerValue}
use Rattle.trust_lists.specs.Entries.{EntryValue}
use Rattle.check_verdict.specs.Trusted.{Holds}
use Rattle.check_verdict.specs.Beside.{beside}
use Rattle.check_verdict.specs.Passing.{Terms, StampedUnder, Passes}
use Rattle.check_verdict.specs.Verdicts.{IsStamped, SignerPasses}
use Rattle.check_verdict.proofs.Beside.{authorities_beside}
use Rattle.check_evidence.specs.Laws.{RecordsShowOneMoment}
use Rattle.check_under.specs.Under.{data_of}
use Rattle.check_under.specs.Laws.{UnderInTime}
use Rattle.check_under.proofs.Mapped.{of_map}

module _ (t : Terms) (k m : ℕ) (es : List EntryValue) (are : t.trust ≡ map (beside k) es) where
  -- of an entry, a token, a signer, and the signers
  counted_in_time : (e : EntryValue) (s : SignerValue) (attributes : List AttributeValue)
      → StampedUnder t s attributes m e → (x : EntryValue) × Contains es x × (beside k x ≡ e) → m ≤ k
  counted_in_time e s attributes p (x, among, same) =
      ((authorities_beside k m x (ap (λ (y : EntryValue). y.role) same ∙ p.role)).0
      (subst (λ (y : EntryValue). Holds y m) (sym same) p.period)).2

  under_in_time : (s : SignerValue) (attributes : List AttributeValue)
      → Any (StampedUnder t s attributes m) (map (beside k) es) → m ≤ k
  under_in_time s attributes (i, e, within, is, p) =
      counted_in_time e s attributes p (of_map k es e (i, within, is))

  token_in_time : (token stamped : List ℕ) → Passes t token stamped m → m ≤ k
  token_in_time token stamped p = under_in_time p.signer p.attributes
      (subst (λ (l : List EntryValue). Any (StampedUnder t p.signer p.attributes m) l) are p.entry)

  stamped_in_time : (s : SignerValue) → IsStamped t s m → m ≤ k
  stamped_in_time s (i, token, within, is, p) = token_in_time token s.signature p

  signers_in_time : (content econtent_type : List ℕ) (signers : List SignerValue)
      → Any (λ s. SignerPasses t content econtent_type s m) signers → m ≤ k
  signers_in_time content econtent_type signers (i, s, within, is, p) = stamped_in_time s p.earliest.has.stamped

pub in_time_under : RecordsShowOneMoment → UnderInTime
in_time_under one g octets file handed m k shows y =
    subst (λ (n : ℕ). m ≤ n) (one g octets (data_of file handed) y.under.shown k y.under.shows shows)
    (signers_in_time y.terms y.under.shown m g.trust y.under.trust y.yes.content
    y.yes.signed.encapsulated.content_type y.yes.signed.signers y.yes.accepts.latest.has)
