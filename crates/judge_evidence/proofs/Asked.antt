-- What is asked about a place is asked about the record.
use Rattle.std.proofs.Common.{◌≡◌, ℕ, Bool, true, false, List, Option, Some, None, refl, sym, ◌∙◌, subst, inl, inr}
use Rattle.std.specs.Option.{is_some}
use Rattle.digests.specs.declared.algorithm.Alg.{Alg}
use Rattle.digests.specs.declared.selection.WantedDigests.{WantedDigests}
use Rattle.check_fit.specs.declared.policy.Policy.{Policy}
use Rattle.trust_lists.specs.Asking.{Asked}
use Rattle.trust_lists.specs.Entries.{EntryValue}
use Rattle.evidence_types.specs.StampValue.{StampValue}
use Rattle.check_verdict.specs.Asks.{IsAskedFor, AsksOnly}
use Rattle.check_verdict.specs.Checkers.{CheckerValue}
use Rattle.check_evidence.specs.Grounds.{Grounds, terms_of, of_root}
use Rattle.check_evidence.specs.Places.{Place, IsIn, IsBefore}
use Rattle.check_evidence.specs.Roots.{IsRoot, IsCovered}
use Rattle.check_evidence.specs.Covering.{covered_at}
use Rattle.check_evidence.specs.StampStates.{HasAlg}
use Rattle.check_evidence.specs.Standing.{HasLengths, IsAlgOf, FitsIn, Stands}
use Rattle.evidence_stamps.specs.declared.around.Around.{Around}
use Rattle.evidence_stamps.specs.PlaceValues.{IsChainAlg, IsAround}
use Rattle.evidence_stamps.specs.FitSteps.{IsBy, IsAskedOfStamp}
use Rattle.judge_evidence.specs.Asking.{IsAskedToPassAt, IsAskedToLastAt, IsAskedAt, IsAskedOfChains}
use Rattle.judge_evidence.specs.Data.{AreOfData}
use Rattle.judge_evidence.specs.Running.{IsLapse, IsRunAt}
use Rattle.judge_evidence.specs.Terms.{grounds_of}
use Rattle.judge_evidence.specs.declared.run.Lapse.{Lapse}
use Rattle.judge_evidence.specs.declared.run.Run.{Run}
use Rattle.judge_evidence.specs.declared.terms.Terms.{Terms}
use Rattle.judge_evidence.proofs.EndOfUse.{fits_at}

abbrev Objects : Type 0
Objects = List (List ℕ)

abbrev Chains : Type 0
Chains = List (List StampValue)

-- ---- whether it passes

module _ (g : Grounds) (ds : Objects) (p : Place) (s : StampValue) (is : s ≡ p.stamp) (around : Around)
    (ar : IsAround g ds p around) (checker : CheckerValue) (vouches : Asked → Bool)
    (by : IsBy g checker vouches) where
  its_alg : (alg : Alg) → HasAlg s alg → around.alg ≡ Some alg → IsAlgOf p alg
  its_alg alg own chain =
      let first = subst (λ (o : Option Alg). IsChainAlg p o) chain ar.alg in
      record {
        its = subst (λ (x : StampValue). HasAlg x alg) is own;
        first = first.0;
        is_first = first.1;
        same = first.2;
      }

  -- what is asked about the stamp is asked about its place
  to_pass : (q : Asked) → IsAskedOfStamp checker s around q → IsAskedToPassAt g ds p q
  to_pass q h =
      let due = covered_at h.alg ds p in
      let are = ar.covered h.alg h.same in
      record {
        alg = h.alg;
        is_alg = its_alg h.alg h.its h.same;
        lengths = subst (λ (x : StampValue). HasLengths x.lists h.alg) is h.lengths;
        covers = subst (λ (x : StampValue). IsCovered x.lists due) is (h.covers due are);
        root = h.root;
        is_root = subst (λ (x : StampValue). IsRoot h.alg x.lists due h.root) is (h.is_root due are);
        about = subst (λ (x : StampValue). IsAskedFor (terms_of g).policy g.trust (of_root h.alg h.root) x.stamp q) is
            (subst (λ (t : List EntryValue). IsAskedFor (terms_of g).policy t (of_root h.alg h.root) s.stamp q)
            by.trust (subst (λ (k : Policy). IsAskedFor k checker.trust (of_root h.alg h.root) s.stamp q)
            by.policy h.about));
      }

  -- those before it fit
  pub fit_asks : (chains : Chains) (run : Run) → IsRunAt g ds chains p run → (Only : (Asked → Bool) → Type 0)
      → AsksOnly Only (IsAskedOfStamp checker s around)
      → AsksOnly Only (IsAskedAt g ds chains p)
  fit_asks chains run h Only asks test tests = asks test (λ q about. tests q (inl (h.fit, to_pass q about)))

-- ---- whether it lasts

pub no_lapse : (lapsed : Option Lapse) (some : Bool) → some ≡ is_some lapsed → some ≡ false → lapsed ≡ None
no_lapse None some e h = refl
no_lapse (Some l) some e h = absurd (let differ : true ≡ false = sym e ∙ h in cc)

-- if none before it fails to last, they stand
stood_before : (g : Grounds) (ds : Objects) (chains : Chains) (p : Place) (run : Run) (alg : Alg) (m : ℕ)
    → IsRunAt g ds chains p run → FitsIn g ds p alg m → run.lapsed ≡ None → (r : Place) → IsIn chains r
    → IsBefore r p → Stands g ds r
stood_before g ds chains p run alg m h f none =
    subst (λ (l : Option Lapse). IsLapse g ds chains (λ q. IsBefore q p) l) none
    (h.lapse (m, fits_at g ds p alg m f))

-- by the verifier as it was at first
pub last_asks : (terms : Terms) (first vouches : Asked → Bool) (p : Place) (run : Run) (alg : Alg) (m : ℕ)
    (Only : (Asked → Bool) → Type 0) → vouches ≡ first
    → ((ds : Objects) → FitsIn (grounds_of terms vouches) ds p alg m
    → AsksOnly Only (λ q. (run.lapsed ≡ None) × IsAskedToLastAt (grounds_of terms vouches) ds p q))
    → (chains : Chains) (ds : Objects) → IsRunAt (grounds_of terms first) ds chains p run
    → FitsIn (grounds_of terms first) ds p alg m → AsksOnly Only (IsAskedAt (grounds_of terms first) ds chains p)
last_asks terms first vouches p run alg m Only same asks chains ds h f test tests =
    subst (λ (v : Asked → Bool). (ds : Objects) → FitsIn (grounds_of terms v) ds p alg m
    → AsksOnly Only (λ q. (run.lapsed ≡ None) × IsAskedToLastAt (grounds_of terms v) ds p q)) same asks ds f test
    (λ q about. tests q (inr (stood_before (grounds_of terms first) ds chains p run alg m h f about.0, about.1)))

-- ---- of the chains

-- by the verifier as it was at first
pub place_asks : (terms : Terms) (first vouches : Asked → Bool) (digests : List WantedDigests) (chains : Chains)
    (p : Place) (run : Run) (Only : (Asked → Bool) → Type 0) → vouches ≡ first → IsIn chains p
    → ((chains : Chains) (ds : Objects) → AreOfData digests ds → IsRunAt (grounds_of terms vouches) ds chains p run
    → AsksOnly Only (IsAskedAt (grounds_of terms vouches) ds chains p))
    → (ds : Objects) → AreOfData digests ds → IsRunAt (grounds_of terms first) ds chains p run
    → AsksOnly Only (IsAskedOfChains (grounds_of terms first) ds chains)
place_asks terms first vouches digests chains p run Only same there asks ds are h test tests =
    subst (λ (v : Asked → Bool). (chains : Chains) (ds : Objects) → AreOfData digests ds
    → IsRunAt (grounds_of terms v) ds chains p run → AsksOnly Only (IsAskedAt (grounds_of terms v) ds chains p)) same
    asks chains ds are h test (λ q about. tests q (record { place = p; there = there; about = about }))
