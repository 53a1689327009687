-- What is answered about an archive time-stamp holds at its place.
use Rattle.std.proofs.Common.{◌≡◌, ◌≢◌, ◌<◌, ◌≤◌, ℕ, Bool, List, [], ◌∷◌, Option, Some, None}
use Rattle.std.proofs.Common.{Err, refl, sym, ap, subst, ◌∙◌, inl, inr}
use Rattle.std.specs.Prelude.{IfSome}
use Rattle.std.specs.List.{AllZip}
use Rattle.der_core.specs.Values.{AlgorithmValue}
use Rattle.digests.specs.Digests.{octets_of}
use Rattle.digests.specs.declared.algorithm.Alg.{Alg}
use Rattle.digests.specs.declared.selection.WantedDigests.{WantedDigests}
use Rattle.digests.specs.declared.value.Digest.{Digest}
use Rattle.check_fit.specs.declared.rules.TokenRule.{TokenRule}
use Rattle.tsp_types.specs.TstValue.{TstValue}
use Rattle.trust_lists.specs.Asking.{Asked}
use Rattle.evidence_types.specs.StampValue.{StampValue}
use Rattle.check_verdict.specs.Passing.{PassesFor, of_digest}
use Rattle.check_verdict.specs.TokenRules.{TokenFailsFor}
use Rattle.check_verdict.specs.Asks.{IsAskedFor}
use Rattle.check_verdict.specs.Checkers.{CheckerValue, terms_for}
use Rattle.check_evidence.specs.declared.rules.StampRule.TheVariants as rule
use Rattle.check_evidence.specs.Grounds.{Grounds, terms_of, of_root, of_none}
use Rattle.check_evidence.specs.Places.{Place, first_beside, preceding, following}
use Rattle.check_evidence.specs.Roots.{IsRoot, IsCovered}
use Rattle.check_evidence.specs.Covering.{covered_at}
use Rattle.check_evidence.specs.CoveredValues.{IsValueOf, AreValues, AreSome}
use Rattle.check_evidence.specs.declared.covered.Covered.{Covered}
use Rattle.check_evidence.specs.declared.covered.Covered.TheVariants as covered
use Rattle.check_evidence.specs.StampStates.{States, HasAlg, ShowsAlg}
use Rattle.check_evidence.specs.Standing.{IsAlgOf, HasLengths, Covers, Imprints, IsLater, IsInTime, IsOrdered, FitsIn}
use Rattle.check_evidence.specs.Failing.{HasNoAlg, HasOtherLength, CoversNot, TokenFailsAt, TokenUnread, IsDisordered}
use Rattle.evidence_stamps.specs.declared.around.Around.{Around}
use Rattle.evidence_stamps.specs.declared.unfit.Unfit.{Unfit}
use Rattle.evidence_stamps.specs.declared.unfit.Unfit.TheVariants as unfit
use Rattle.evidence_stamps.specs.PlaceValues.{IsChainAlg, IsMomentOf, IsLatestBy, IsAround}
use Rattle.evidence_stamps.specs.FitSteps.{IsBy, IsFitOf, IsAskedOfStamp, IsRootFor, RootsOrFails, PassesOrFails}
use Rattle.evidence_stamps.specs.FitSteps.{IsBetween}
use Rattle.check_evidence.proofs.States.{some_is, one_alg, one_time}

-- ---- what it must cover

-- something is due where something must be covered
pub some_due : (alg : Alg) (c : Covered) (due : List (List ℕ)) → AreSome c → AreValues alg c due → due ≢ []
some_due alg (covered.One d) due some are none = absurd (let z : [] ≡ octets_of d ∷ [] = sym none ∙ are in cc)
some_due alg (covered.Each chains digests) due some are none =
    no_data digests.now (subst (λ (l : List (List ℕ)). AllZip (IsValueOf alg chains) digests.now l) none are) some
  where
    no_data : (ds : List WantedDigests) → AllZip (IsValueOf alg chains) ds [] → ds ≢ [] → ⊥
    no_data [] h some = some refl
    no_data (d ∷ ds) h some = absurd h

-- ---- what a check goes by

pub same_terms : (g : Grounds) (checker : CheckerValue) (vouches : Asked → Bool) → IsBy g checker vouches
    → terms_for checker vouches ≡ terms_of g
same_terms g checker vouches h = λ i. record { policy = h.policy i; trust = h.trust i; vouches = h.answers i }

-- ---- the algorithm of its chain

chain_is : (p : Place) (first : Option Alg) (alg : Alg) → IsChainAlg p first → IsAlgOf p alg → first ≡ Some alg
chain_is p None alg h k = absurd (h k.first alg k.is_first k.same)
chain_is p (Some other) alg h k =
    let same : h.0 ≡ k.first = some_is h.0 k.first (first_beside p) h.1 k.is_first in
    ap (λ (a : Alg). some_alg a)
    (one_alg k.first other alg (subst (λ (s : StampValue). HasAlg s other) same h.2) k.same)
  where
    some_alg : Alg → Option Alg
    some_alg a = Some a

-- ---- its order

later_than : (s : Option StampValue) (before : Option ℕ) (m : ℕ) → IsMomentOf s before
    → IfSome before (λ n. n < m) → IsLater s m
later_than None before m h k = tt
later_than (Some s) before m h k =
    (h.0, h.1, subst (λ (o : Option ℕ). IfSome o (λ n. n < m)) h.2 k)

after_it : (s : Option StampValue) (before : Option ℕ) (m : ℕ) → IsMomentOf s before → IsLater s m
    → IfSome before (λ n. n < m)
after_it None before m h k = subst (λ (o : Option ℕ). IfSome o (λ n. n < m)) (sym h) tt
after_it (Some s) before m h k = subst (λ (o : Option ℕ). IfSome o (λ n. n < m)) (sym h.2)
    (subst (λ (n : ℕ). n < m) (one_time s k.0 h.0 k.1 h.1) k.2)

before_end : (at : Option ℕ) (m : ℕ) → IfSome at (λ last. m ≤ last) → IsInTime None at m
before_end None m h = tt
before_end (Some last) m h = h

to_end : (at : Option ℕ) (m : ℕ) → IsInTime None at m → IfSome at (λ last. m ≤ last)
to_end None m h = tt
to_end (Some last) m h = h

in_time_of : (next : Option StampValue) (at latest : Option ℕ) (m : ℕ) → IsLatestBy next at latest
    → IfSome latest (λ last. m ≤ last) → IsInTime next at m
in_time_of (Some s) at latest m h k = tt
in_time_of None at latest m h k = before_end at m (subst (λ (o : Option ℕ). IfSome o (λ last. m ≤ last)) h k)

no_later : (next : Option StampValue) (at latest : Option ℕ) (m : ℕ) → IsLatestBy next at latest
    → IsInTime next at m → IfSome latest (λ last. m ≤ last)
no_later (Some s) at latest m h k = subst (λ (o : Option ℕ). IfSome o (λ last. m ≤ last)) (sym h) tt
no_later None at latest m h k =
    subst (λ (o : Option ℕ). IfSome o (λ last. m ≤ last)) (sym h) (to_end at m k)

module _ (g : Grounds) (ds : List (List ℕ)) (p : Place) (around : Around) (ar : IsAround g ds p around) (m : ℕ) where
  is_ordered : IsBetween around m → IsOrdered g p m
  is_ordered h = record {
    later = later_than (preceding p) around.before m ar.before h.later;
    in_time = in_time_of (following p) g.at around.latest m ar.latest h.in_time;
  }

  is_between : IsOrdered g p m → IsBetween around m
  is_between h = record {
    later = after_it (preceding p) around.before m ar.before h.later;
    in_time = no_later (following p) g.at around.latest m ar.latest h.in_time;
  }

-- ---- at the place

module _ (g : Grounds) (ds : List (List ℕ)) (p : Place) (s : StampValue) (is : p.stamp ≡ s) (around : Around)
    (ar : IsAround g ds p around) where
  -- W1
  pub fails_alg : ShowsAlg s.algorithm s → ((alg : Alg) → HasAlg s alg → around.alg ≡ Some alg → ⊥) → HasNoAlg p
  fails_alg shows never = record {
    shows = subst (λ (x : StampValue). ShowsAlg x.algorithm x) (sym is) shows;
    none = λ alg k. never alg (subst (λ (x : StampValue). HasAlg x alg) is k.its) (chain_is p around.alg alg ar.alg k);
  }

  -- W4 of what states nothing
  pub fails_unread : (ShowsAlg s.algorithm s → ⊥) → (failed : TokenRule)
      → TokenFailsFor (terms_of g) s.stamp of_none failed → TokenUnread g p failed
  fails_unread hides failed fails = record {
    unread = λ k. hides (subst (λ (x : StampValue). ShowsAlg x.algorithm x) is k);
    fails = subst (λ (x : StampValue). TokenFailsFor (terms_of g) x.stamp of_none failed) (sym is) fails;
  }

  module _ (alg : Alg) (own : HasAlg s alg) (chain : around.alg ≡ Some alg) where
    is_alg : IsAlgOf p alg
    is_alg =
        let first = subst (λ (o : Option Alg). IsChainAlg p o) chain ar.alg in
        record {
          its = subst (λ (x : StampValue). HasAlg x alg) (sym is) own;
          first = first.0;
          is_first = first.1;
          same = first.2;
        }

    -- W2
    pub fails_length : (HasLengths s.lists alg → ⊥) → HasOtherLength p
    fails_length other = record {
      alg = alg;
      is_alg = is_alg;
      other = λ h. other (subst (λ (x : StampValue). HasLengths x.lists alg) is h);
    }

    module _ (lengths : HasLengths s.lists alg) where
      has_lengths : HasLengths p.stamp.lists alg
      has_lengths = subst (λ (x : StampValue). HasLengths x.lists alg) (sym is) lengths

      -- W3
      pub fails_cover : ((due : List (List ℕ)) → AreValues alg around.covered due → IsCovered s.lists due → ⊥)
          → CoversNot ds p
      fails_cover not = record {
        alg = alg;
        is_alg = is_alg;
        lengths = has_lengths;
        not = λ h. not (covered_at alg ds p) (ar.covered alg chain)
            (subst (λ (x : StampValue). IsCovered x.lists (covered_at alg ds p)) is h);
      }

    module _ (root : Digest) (r : IsRootFor alg s.lists around.covered root) where
      covers_it : Covers ds p alg
      covers_it = subst (λ (x : StampValue). IsCovered x.lists (covered_at alg ds p)) (sym is)
          (r.covers (covered_at alg ds p) (ar.covered alg chain))

      is_its_root : IsRoot alg p.stamp.lists (covered_at alg ds p) (octets_of root)
      is_its_root = subst (λ (x : StampValue). IsRoot alg x.lists (covered_at alg ds p) (octets_of root)) (sym is)
          (r.is_root (covered_at alg ds p) (ar.covered alg chain))

      -- W4
      pub fails_token : (failed : TokenRule) → TokenFailsFor (terms_of g) s.stamp (of_digest root) failed
          → TokenFailsAt g ds p failed
      fails_token failed fails = record {
        alg = alg;
        is_alg = is_alg;
        lengths = has_lengths r.lengths;
        covers = covers_it;
        root = octets_of root;
        is_root = is_its_root;
        fails = subst (λ (x : StampValue). TokenFailsFor (terms_of g) x.stamp (of_root alg (octets_of root)) failed)
            (sym is) (subst (λ (a : Alg). TokenFailsFor (terms_of g) s.stamp (of_root a (octets_of root)) failed) r.by
            fails);
      }

      module _ (m : ℕ) (passes : PassesFor (terms_of g) s.stamp (of_digest root) m) where
        imprints_it : Imprints g ds p alg m
        imprints_it = record {
          root = octets_of root;
          is_root = is_its_root;
          passes = subst (λ (x : StampValue). PassesFor (terms_of g) x.stamp (of_root alg (octets_of root)) m) (sym is)
              (subst (λ (a : Alg). PassesFor (terms_of g) s.stamp (of_root a (octets_of root)) m) r.by passes);
        }

        -- W5
        pub fails_order : (IsBetween around m → ⊥) → IsDisordered g ds p
        fails_order not = record {
          alg = alg;
          moment = m;
          is_alg = is_alg;
          lengths = has_lengths r.lengths;
          covers = covers_it;
          imprints = imprints_it;
          not = λ h. not (is_between g ds p around ar m h);
        }

        pub fits : IsBetween around m → FitsIn g ds p alg m
        fits between = record {
          is_alg = is_alg;
          lengths = has_lengths r.lengths;
          covers = covers_it;
          imprints = imprints_it;
          ordered = is_ordered g ds p around ar m between;
        }

-- ---- the answers of the steps

module _ (g : Grounds) (ds : List (List ℕ)) (p : Place) (s : StampValue) (is : p.stamp ≡ s) (around : Around)
    (ar : IsAround g ds p around) (alg : Alg) (own : HasAlg s alg) (chain : around.alg ≡ Some alg) where
  pub no_root : (u : Unfit) → RootsOrFails alg s.lists around.covered (Err u)
      → IsFitOf g ds p (Err u)
  no_root (unfit.Rule rule.HashLength) h = fails_length g ds p s is around ar alg own chain h
  no_root (unfit.Rule rule.NotCovered) h = fails_cover g ds p s is around ar alg own chain h.0 h.1
  no_root (unfit.Device fault) h = inr h
  no_root (unfit.Rule rule.Algorithm) h = absurd h
  no_root (unfit.Rule (rule.Token failed)) h = absurd h
  no_root (unfit.Rule rule.Order) h = absurd h
  no_root (unfit.Rule rule.Weak) h = absurd h
  no_root (unfit.Rule rule.Lapsed) h = absurd h
  no_root (unfit.Rule rule.Others) h = absurd h

  pub no_moment : (root : Digest) → IsRootFor alg s.lists around.covered root → (u : Unfit)
      → PassesOrFails (terms_of g) s.stamp (of_digest root) (Err u) → IsFitOf g ds p (Err u)
  no_moment root r (unfit.Rule (rule.Token failed)) h =
      inl (fails_token g ds p s is around ar alg own chain root r failed h)
  no_moment root r (unfit.Device fault) h = inl h
  no_moment root r (unfit.Rule rule.HashLength) h = absurd h
  no_moment root r (unfit.Rule rule.NotCovered) h = absurd h
  no_moment root r (unfit.Rule rule.Algorithm) h = absurd h
  no_moment root r (unfit.Rule rule.Order) h = absurd h
  no_moment root r (unfit.Rule rule.Weak) h = absurd h
  no_moment root r (unfit.Rule rule.Lapsed) h = absurd h
  no_moment root r (unfit.Rule rule.Others) h = absurd h

-- a question about the token on the root is about the stamp
pub asked_of : (checker : CheckerValue) (s : StampValue) (around : Around) (alg : Alg) → HasAlg s alg
    → around.alg ≡ Some alg → (root : Digest) → IsRootFor alg s.lists around.covered root → (token : List ℕ)
    → token ≡ s.stamp → (q : Asked) → IsAskedFor checker.policy checker.trust (of_digest root) token q
    → IsAskedOfStamp checker s around q
asked_of checker s around alg own chain root r token e q about = record {
  alg = alg;
  its = own;
  same = chain;
  lengths = r.lengths;
  covers = r.covers;
  root = octets_of root;
  is_root = r.is_root;
  about = subst (λ (x : List ℕ). IsAskedFor checker.policy checker.trust (of_root alg (octets_of root)) x q) e
      (subst (λ (a : Alg). IsAskedFor checker.policy checker.trust (of_root a (octets_of root)) token q) r.by about);
}

-- what hides its algorithm states nothing
pub states_nothing : (s : StampValue) → (ShowsAlg s.algorithm s → ⊥) → (token : List ℕ) → token ≡ s.stamp
    → (x : TstValue) → States token x → ⊥
states_nothing s hides token e x h = go s.algorithm refl
  where
    go : (o : Option AlgorithmValue) → s.algorithm ≡ o → ⊥
    go (Some named) f = hides (subst (λ (o : Option AlgorithmValue). ShowsAlg o s) (sym f) tt)
    go None f = hides (subst (λ (o : Option AlgorithmValue). ShowsAlg o s) (sym f)
        (x, subst (λ (t : List ℕ). States t x) e h))
