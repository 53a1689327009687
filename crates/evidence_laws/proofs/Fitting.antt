-- The archive time-stamp at a place fits, or fails one of W1 to W5 first.
use Rattle.std.proofs.Common.{◌≢◌, ℕ, ◌<◌, ◌≤◌, List, [], Option, Some, None, arith, subst, inl, inr}
use Rattle.std.proofs.Common.{◌⊎◌}
use Rattle.std.specs.Prelude.{IfSome}
use Rattle.std.proofs.lemmas.Bool.{cases_lt}
use Rattle.digests.specs.declared.algorithm.Alg.{Alg}
use Rattle.evidence_types.specs.StampValue.{StampValue}
use Rattle.check_fit.specs.declared.rules.TokenRule.{TokenRule}
use Rattle.check_names.proofs.Deciding.{Decided, both, in_words}
use Rattle.check_verdict.specs.Passing.{Terms, PassesFor}
use Rattle.check_verdict.specs.TokenRules.{TokenFailsFor}
use Rattle.check_verdict.proofs.Deciding.{less}
use Rattle.check_verdict.proofs.TokensGiven.{pass_or_fail}
use Rattle.check_evidence.specs.declared.rules.StampRule.{StampRule}
use Rattle.check_evidence.specs.declared.rules.StampRule.TheVariants as rule
use Rattle.check_evidence.specs.Grounds.{Grounds, terms_of, of_root, of_none}
use Rattle.check_evidence.specs.Roots.{IsRoot}
use Rattle.check_evidence.specs.Places.{Place, preceding, following}
use Rattle.check_evidence.specs.Covering.{covered_at}
use Rattle.check_evidence.specs.StampStates.{ShowsAlg}
use Rattle.check_evidence.specs.Standing.{IsAlgOf, HasLengths, Covers, Imprints, IsLater, IsInTime, IsOrdered}
use Rattle.check_evidence.specs.Failing.{FailsToFit}
use Rattle.check_evidence.specs.Refusing.{Fits}
use Rattle.evidence_laws.proofs.Octets.{StampOctets}
use Rattle.check_evidence.proofs.States.{one_time}
use Rattle.evidence_laws.proofs.Beside.{Known}
use Rattle.evidence_laws.proofs.Stated.{has_time, shows, alg_of_place}
use Rattle.evidence_laws.proofs.Lists.{lengths, covered, root_of, must_cover_some}

pub at_most : (m n : ℕ) → Decided (m ≤ n)
at_most m n = elim (cases_lt n m) [ inl lt ↦ inr (λ le. absurd (omega (arith, lt, le))) | inr ge ↦ inl ge ]

-- a token passes on no imprint where none is due
never_of_none : (t : Terms) (token : List ℕ) (m : ℕ) → PassesFor t token of_none m → ⊥
never_of_none t token m p = p.imprint.digest

unread : (t : Terms) (s : StampValue) → StampOctets s
    → (failed : TokenRule) × TokenFailsFor t s.stamp of_none failed
unread t s octets = elim (pass_or_fail t s.stamp of_none octets) [
  | inl passes ↦ absurd (never_of_none t s.stamp passes.0 passes.1)
  | inr fails ↦ fails
]

-- ---- its order

is_later : (s : Option StampValue) (m : ℕ) → IfSome s StampOctets → Decided (IsLater s m)
is_later None m octets = inl tt
is_later (Some s) m octets = elim (has_time s octets) [
  | inr none ↦ inr (λ h. none (h.0, h.1))
  | inl time ↦ in_words (λ lt. (time.0, time.1, lt))
      (λ h. subst (λ (n : ℕ). n < m) (one_time s h.0 time.0 h.1 time.1) h.2) (less time.0 m)
]

is_in_time : (next : Option StampValue) (at : Option ℕ) (m : ℕ) → Decided (IsInTime next at m)
is_in_time (Some s) at m = inl tt
is_in_time None None m = inl tt
is_in_time None (Some last) m = at_most m last

ordered : (g : Grounds) (p : Place) (m : ℕ) → Known StampOctets p → Decided (IsOrdered g p m)
ordered g p m octets = in_words (λ h. record { later = h.0; in_time = h.1 }) (λ h. (h.later, h.in_time))
    (both (is_later (preceding p) m octets.before) (is_in_time (following p) g.at m))

-- ---- the rules, one after the other

abbrev FitsOrFails : Grounds → List (List ℕ) → Place → Type 0
FitsOrFails g ds p = Fits g ds p ⊎ ((failed : StampRule) × FailsToFit g ds p failed)

module _ (g : Grounds) (ds : List (List ℕ)) (some : ds ≢ []) (p : Place) (octets : Known StampOctets p) where
  module _ (alg : Alg) (is : IsAlgOf p alg) (long : HasLengths p.stamp.lists alg) (covers : Covers ds p alg) where
    by_order : (m : ℕ) (imprints : Imprints g ds p alg m) → Decided (IsOrdered g p m) → FitsOrFails g ds p
    by_order m imprints (inl order) = inl (
      alg,
      m,
      record { is_alg = is; lengths = long; covers = covers; imprints = imprints; ordered = order },
    )
    by_order m imprints (inr not) = inr (
      rule.Order,
      record {
        alg = alg;
        moment = m;
        is_alg = is;
        lengths = long;
        covers = covers;
        imprints = imprints;
        not = not;
      },
    )

    by_token : (root : List ℕ) → IsRoot alg p.stamp.lists (covered_at alg ds p) root → FitsOrFails g ds p
    by_token root is_root = elim (pass_or_fail (terms_of g) p.stamp.stamp (of_root alg root) octets.its) [
      | inl passes ↦ by_order passes.0 (record { root = root; is_root = is_root; passes = passes.1 })
          (ordered g p passes.0 octets)
      | inr fails ↦ inr (
        rule.Token fails.0,
        inl (record {
          alg = alg;
          is_alg = is;
          lengths = long;
          covers = covers;
          root = root;
          is_root = is_root;
          fails = fails.1;
        }),
      )
    ]

    on_root : FitsOrFails g ds p
    on_root =
        let root = root_of alg p.stamp.lists (covered_at alg ds p) (must_cover_some alg ds p some) covers in
        by_token root.0 root.1

  by_covering : (alg : Alg) → IsAlgOf p alg → HasLengths p.stamp.lists alg → Decided (Covers ds p alg)
      → FitsOrFails g ds p
  by_covering alg is long (inl covers) = on_root alg is long covers
  by_covering alg is long (inr not) =
      inr (rule.NotCovered, record { alg = alg; is_alg = is; lengths = long; not = not })

  by_lengths : (alg : Alg) → IsAlgOf p alg → Decided (HasLengths p.stamp.lists alg) → FitsOrFails g ds p
  by_lengths alg is (inl long) = by_covering alg is long (covered p.stamp.lists (covered_at alg ds p))
  by_lengths alg is (inr other) = inr (rule.HashLength, record { alg = alg; is_alg = is; other = other })

  by_alg : ShowsAlg p.stamp.algorithm p.stamp → Decided ((alg : Alg) × IsAlgOf p alg) → FitsOrFails g ds p
  by_alg shown (inl alg) = by_lengths alg.0 alg.1 (lengths p.stamp.lists alg.0)
  by_alg shown (inr none) =
      inr (rule.Algorithm, record { shows = shown; none = λ alg is. none (alg, is) })

  by_shown : Decided (ShowsAlg p.stamp.algorithm p.stamp) → FitsOrFails g ds p
  by_shown (inl shown) = by_alg shown (alg_of_place p octets)
  by_shown (inr hidden) = let u = unread (terms_of g) p.stamp octets.its in
      inr (rule.Token u.0, inr (record { unread = hidden; fails = u.1 }))

  pub fits_or_fails : FitsOrFails g ds p
  fits_or_fails = by_shown (shows p.stamp.algorithm p.stamp octets.its)
