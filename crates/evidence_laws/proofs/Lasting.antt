-- The archive time-stamp at a place that fits stands, or fails W6 or W7 first.
use Rattle.std.proofs.Common.{◌≡◌, ℕ, ◌≤◌, List, [], ◌∷◌, Option, Some, None, refl, subst, inl, inr, ◌⊎◌}
use Rattle.std.specs.Prelude.{IfSome}
use Rattle.std.specs.List.{AllByRecursion}
use Rattle.der_core.specs.Element.{IsBytes}
use Rattle.digests.specs.declared.algorithm.Alg.{Alg}
use Rattle.digests.specs.declared.algorithm.Alg.TheVariants.{Sha1}
use Rattle.cms_types.specs.AttributeValue.{AttributeValue}
use Rattle.cms_types.specs.SignerValue.{SignerValue}
use Rattle.check_fit.proofs.Octets.{ValuesAreOctets, SignerOctets, signed_octets}
use Rattle.check_names.proofs.Deciding.{Decided, both, implies, in_words, must_name}
use Rattle.trust_lists.specs.Entries.{EntryValue}
use Rattle.evidence_types.specs.StampValue.{StampValue}
use Rattle.check_verdict.specs.Passing.{Terms, Due, StampedUnder, PassesFor}
use Rattle.check_verdict.proofs.Deciding.{stamping, matches, stamping_only, holds, vouched}
use Rattle.check_verdict.proofs.TokensGiven.{attributes_of}
use Rattle.check_evidence.specs.declared.rules.StampRule.{StampRule}
use Rattle.check_evidence.specs.declared.rules.StampRule.TheVariants as rule
use Rattle.check_evidence.specs.Grounds.{AlgEnd, Grounds, terms_of, of_root}
use Rattle.check_evidence.specs.Places.{Place, following}
use Rattle.check_evidence.specs.StampStates.{HasTime, IsUntilBy, IsUntil}
use Rattle.check_evidence.specs.Ends.{AlgHolds}
use Rattle.check_evidence.specs.Standing.{FitsIn, AlgsHold, LastsUnder, Lasts, Stands}
use Rattle.check_evidence.specs.Failing.{FailsToLast}
use Rattle.evidence_laws.proofs.Octets.{StampOctets}
use Rattle.evidence_laws.proofs.Beside.{Known}
use Rattle.check_evidence.proofs.States.{passing_time}
use Rattle.evidence_laws.proofs.Stated.{same_algs}
use Rattle.evidence_laws.proofs.Lists.{all_decided, any_decided}
use Rattle.evidence_laws.proofs.Fitting.{at_most}

-- ---- algorithms

pub alg_holds : (ends : List AlgEnd) (alg : Alg) (m : ℕ) → Decided (AlgHolds ends alg m)
alg_holds ends alg m = in_words (λ h. record { in_time = h.0; given = h.1 }) (λ h. (h.in_time, h.given))
    (both (all_decided (λ (e : AlgEnd). e.alg ≡ alg → m ≤ e.last)
    (λ e. implies (same_algs e.alg alg) (at_most m e.last)) ends)
    (implies (same_algs alg Sha1) (any_decided (λ (e : AlgEnd). e.alg ≡ Sha1) (λ e. same_algs e.alg Sha1) ends)))

algs_hold : (ends : List AlgEnd) (lists imprint signer : Alg) (until : ℕ)
    → Decided (AlgsHold ends lists imprint signer until)
algs_hold ends lists imprint signer until =
    in_words (λ h. record { by_lists = h.0; by_imprint = h.1.0; by_signer = h.1.1 })
    (λ h. (h.by_lists, (h.by_imprint, h.by_signer)))
    (both (alg_holds ends lists until) (both (alg_holds ends imprint until) (alg_holds ends signer until)))

-- ---- entries

stamped_under : (t : Terms) (s : SignerValue) (attributes : List AttributeValue) (m : ℕ) (e : EntryValue)
    → ValuesAreOctets attributes
    → Decided (StampedUnder t s attributes m e)
stamped_under t s attributes m e values =
    in_words (λ ((role, same), ((named, purpose), (period, vouched))).
    record { role = role; matches = same; named = named; purpose = purpose; period = period; vouched = vouched })
    (λ u. ((u.role, u.matches), ((u.named, u.purpose), (u.period, u.vouched))))
    (both (both (stamping e.role) (matches s.sid e.certificate))
    (both (both (must_name attributes e.certificate values) (stamping_only e.certificate))
    (both (holds e m) (vouched t e s attributes))))

lasts : (g : Grounds) (s : SignerValue) (attributes : List AttributeValue) (m until : ℕ) → ValuesAreOctets attributes
    → Decided (Lasts g s attributes m until)
lasts g s attributes m until values = any_decided (LastsUnder g s attributes m until)
    (λ e. both (stamped_under (terms_of g) s attributes m e values) (holds e until)) g.trust

-- the attributes of a token of octets
signed_values : (t : Terms) (token : List ℕ) (due : Due) (m : ℕ) (p : PassesFor t token due m) → IsBytes token
    → ValuesAreOctets p.attributes
signed_values t token due m p octets =
    let signers : AllByRecursion SignerOctets (p.signer ∷ []) =
    subst (AllByRecursion SignerOctets) p.one_signer (signed_octets token p.signed p.encodes octets).signers in
    attributes_of p.signer p.attributes p.has signers.0

-- ---- the end of its use

-- a moment is stated
abbrev pub StatesTime : StampValue → Type 0
StatesTime s = (m : ℕ) × HasTime s m

-- it is told by the following time-stamp, which states a moment, or by its own
until_by : (next : Option StampValue) (at : Option ℕ) (s : StampValue)
    → IfSome next StatesTime → StatesTime s → (until : ℕ) × IsUntilBy next at s until
until_by (Some n) at s time own = time
until_by None (Some m) s time own = (m, refl)
until_by None None s time own = own

module _ (g : Grounds) (ds : List (List ℕ)) (p : Place) (octets : StampOctets p.stamp) (times : Known StatesTime p)
    (alg : Alg) (m : ℕ) (f : FitsIn g ds p alg m) where
  until : (until : ℕ) × IsUntil g.at p until
  until = until_by (following p) g.at p.stamp times.next times.its

  values : ValuesAreOctets f.imprints.passes.attributes
  values = signed_values (terms_of g) p.stamp.stamp (of_root alg f.imprints.root) m f.imprints.passes octets

  by_entries : AlgsHold g.ends alg f.imprints.passes.imprint.alg f.imprints.passes.fits.alg until.0
      → Decided (Lasts g f.imprints.passes.signer f.imprints.passes.attributes m until.0)
      → Stands g ds p ⊎ ((failed : StampRule) × FailsToLast g ds p failed)
  by_entries algs (inl lasts) = inl (record {
    alg = alg;
    moment = m;
    fits = f;
    until = until.0;
    is_until = until.1;
    algs = algs;
    lasts = lasts;
  })
  by_entries algs (inr not) = inr (
    rule.Lapsed,
    record { alg = alg; moment = m; fits = f; until = until.0; is_until = until.1; algs = algs; not = not },
  )

  by_algs : Decided (AlgsHold g.ends alg f.imprints.passes.imprint.alg f.imprints.passes.fits.alg until.0)
      → Stands g ds p ⊎ ((failed : StampRule) × FailsToLast g ds p failed)
  by_algs (inl algs) = by_entries algs
      (lasts g f.imprints.passes.signer f.imprints.passes.attributes m until.0 values)
  by_algs (inr not) = inr (
    rule.Weak,
    record { alg = alg; moment = m; fits = f; until = until.0; is_until = until.1; not = not },
  )

  pub stands_or_fails : Stands g ds p ⊎ ((failed : StampRule) × FailsToLast g ds p failed)
  stands_or_fails =
      by_algs (algs_hold g.ends alg f.imprints.passes.imprint.alg f.imprints.passes.fits.alg until.0)

-- what fits states the moment with which it does
pub fits_at : (g : Grounds) (ds : List (List ℕ)) (p : Place) (alg : Alg) (m : ℕ) → FitsIn g ds p alg m
    → StatesTime p.stamp
fits_at g ds p alg m f =
    (m, passing_time (terms_of g) p.stamp (of_root alg f.imprints.root) m f.imprints.passes)
