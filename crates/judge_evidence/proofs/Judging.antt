-- What is answered of a place holds of the record.
use Rattle.std.proofs.Common.{◌≡◌, ◌≢◌, ◌⊎◌, ◌+◌, ℕ, Bool, true, false, List, [], ◌∷◌, length, Option, Some}
use Rattle.std.proofs.Common.{None, MatchOption, IfSome, Err, inl, inr, refl, sym, ap, ◌∙◌, subst, arith}
use Rattle.std.proofs.Common.{if◌then◌else◌}
use Rattle.std.proofs.lemmas.List.{length-append}
use Rattle.std.proofs.lemmas.Grind.{flat_map-append}
use Rattle.der_core.specs.Values.{HasLength}
use Rattle.digests.specs.declared.algorithm.Alg.{Alg}
use Rattle.check_fit.specs.declared.rules.DeviceFault.{DeviceFault}
use Rattle.check_fit.specs.declared.rules.DeviceFault.TheVariants as device
use Rattle.evidence_types.specs.StampValue.{StampValue}
use Rattle.evidence_types.specs.EvidenceValue.{chain_element, chains_parts}
use Rattle.check_evidence.specs.declared.rules.StampRule.{StampRule}
use Rattle.check_evidence.specs.declared.rules.EvidenceRefused.{EvidenceRefused}
use Rattle.check_evidence.specs.declared.rules.EvidenceRefused.TheVariants as refused
use Rattle.check_evidence.specs.Grounds.{Grounds}
use Rattle.check_evidence.specs.Roots.{HasNoOthers}
use Rattle.check_evidence.specs.Places.{Place, IsIn, chain_of, chain_number, stamp_number, first_beside, following}
use Rattle.check_evidence.specs.Places.{preceding, last_of}
use Rattle.check_evidence.specs.StampStates.{HasTime, HasAlg}
use Rattle.check_evidence.specs.Covering.{covered_after, covered_at}
use Rattle.check_evidence.specs.CoveredValues.{AreValues}
use Rattle.check_evidence.specs.declared.covered.Covered.{Covered}
use Rattle.check_evidence.specs.Standing.{IsAlgOf, FitsIn}
use Rattle.check_evidence.specs.Showing.{IsWhole}
use Rattle.evidence_stamps.specs.StateValue.{StateValue, IsStateOf}
use Rattle.evidence_stamps.specs.PlaceValues.{IsChainAlg, IsMomentOf, IsLatestBy, IsAround}
use Rattle.evidence_stamps.specs.FitSteps.{IsFitOf}
use Rattle.evidence_stamps.specs.declared.unfit.Unfit.{Unfit}
use Rattle.evidence_stamps.specs.declared.unfit.Unfit.TheVariants as unfit
use Rattle.judge_evidence.specs.Going.{IsFirstPlace, IsNextPlace}
use Rattle.judge_evidence.specs.Running.{KnowsChainAlg, IsBeginning, IsRunAt, IsRunPast, IsFound}
use Rattle.judge_evidence.specs.Running.{lapse_with}
use Rattle.judge_evidence.specs.Walking.{IsAhead, IsBegunBy, IsFault, IsRunOf, IsChainsVerdict, refused_at}
use Rattle.judge_evidence.specs.declared.run.Begun.{Begun}
use Rattle.judge_evidence.specs.declared.run.Run.{Run}
use Rattle.judge_evidence.proofs.EndOfUse.{IsAheadBy, fits_at}
use Rattle.judge_evidence.proofs.Neighbours.{follows_next, itself_beside}
use Rattle.judge_evidence.proofs.Running.{run_past, unfit_fails}
use Rattle.check_evidence.proofs.States.{some_is, one_alg}

abbrev Objects : Type 0
Objects = List (List ℕ)

abbrev Chains : Type 0
Chains = List (List StampValue)

-- ---- what is around a place

pub latest_by : (next : Option StampValue) (last : Bool) (ahead : Option StateValue) (at : Option ℕ)
    → IsAheadBy next last ahead → IsLatestBy next at (if last then at else None)
latest_by None true ahead at h = refl
latest_by None false ahead at h = absurd (let differ : false ≡ true = h in cc)
latest_by (Some s) true ahead at h = absurd (let differ : true ≡ false = h.0 in cc)
latest_by (Some s) false ahead at h = refl

-- the algorithm of the first of a chain is its own
pub own_alg : (p : Place) (alg : Option Alg) → p.before ≡ [] → IfSome alg (HasAlg p.stamp)
    → ((a : Alg) → HasAlg p.stamp a → alg ≡ Some a) → IsChainAlg p alg
own_alg p None first has only = λ s a is its.
    let same = some_is p.stamp s (first_beside p) (itself_beside p first) is in
    let none : None ≡ Some a = only a (subst (λ (x : StampValue). HasAlg x a) (sym same) its) in
    cc
own_alg p (Some a) first has only = (p.stamp, itself_beside p first, has)

pub known_alg : (p : Place) (known : Option Alg) → p.before ≢ [] → KnowsChainAlg p known → IsChainAlg p known
known_alg p known some knows =
    let h = knows some in
    subst (λ (o : Option Alg). IsChainAlg p o) (sym h.is) (h.first, h.is_first, h.its)

-- ---- the octets of the chains before

pub earlier_room : (chains : Chains) (p : Place) → IsIn chains p → HasLength (chains_parts chains)
    → HasLength (chains_parts p.earlier)
earlier_room chains p there room =
    let e : length (chains_parts chains)
    ≡ length (chains_parts p.earlier) + length (chains_parts (chain_of p ∷ p.later)) =
    ap (λ (c : Chains). length (chains_parts c)) there
    ∙ ap (λ (l : List ℕ). length l) (flat_map-append chain_element p.earlier (chain_of p ∷ p.later))
    ∙ length-append (chains_parts p.earlier) (chains_parts (chain_of p ∷ p.later)) in
    omega arith

-- ---- one that doesn't fit

module _ (g : Grounds) (ds : Objects) (chains : Chains) (p : Place) where
  fault_is : (fault : DeviceFault) → (fault ≡ device.AskFailed) ⊎ (fault ≡ device.OutOfMemory) → IsFault fault
  fault_is fault (inl e) = subst IsFault (sym e) tt
  fault_is fault (inr e) = subst IsFault (sym e) tt

  pub unfit_run : (run : Run) (u : Unfit) (r : EvidenceRefused)
      → r ≡ refused_at (chain_number p) (stamp_number p) u → IsRunAt g ds chains p run → IsFitOf g ds p (Err u)
      → IsRunOf g ds chains p (Err r)
  unfit_run run (unfit.Rule failed) r is h f =
      subst (λ (x : EvidenceRefused). IsRunOf g ds chains p (Err x)) (sym is) (record {
        place = p;
        is_chain = refl;
        is_stamp = refl;
        fails = unfit_fails g ds chains p run failed h f;
      })
  unfit_run run (unfit.Device fault) r is h f =
      subst (λ (x : EvidenceRefused). IsRunOf g ds chains p (Err x)) (sym is) (fault_is fault f)

  pub device_run : (r : EvidenceRefused) → r ≡ refused.Device device.AskFailed → IsRunOf g ds chains p (Err r)
  device_run r is = subst (λ (x : EvidenceRefused). IsRunOf g ds chains p (Err x)) (sym is) tt

  -- ---- one that fits

  module _ (run after : Run) (alg : Alg) (m : ℕ) (found : Option StampRule) (alone : Bool) (covered : Covered)
      (h : IsRunAt g ds chains p run) (f : FitsIn g ds p alg m) (is_alone : g.whole ≡ alone)
      (covers : AreValues alg covered (covered_at alg ds p)) where
    first_covers : IsFirstPlace p → AreValues alg covered (covered_after alg None [] ds)
    first_covers first = subst (λ (due : List (List ℕ)). AreValues alg covered due)
        (λ i. covered_after alg (last_of (first.no_stamp i)) (first.no_chain i) ds) covers

    beginning : (b : Begun) → IsFirstPlace p → IsBegunBy p.stamp.lists alg covered m alone b
        → IsBeginning g ds chains b
    beginning b first k = record {
      place = p;
      there = h.there;
      is_first = first;
      moment = subst (λ (x : ℕ). HasTime p.stamp x) (sym k.at) (fits_at g ds p alg m f);
      whole = λ e w. record {
        alg = alg;
        its = f.is_alg.its;
        no_others = k.none e (sym is_alone ∙ w) (covered_after alg None [] ds) (first_covers first);
      };
      others = λ e. (
        is_alone ∙ (k.others e).0,
        λ w. (k.others e).1 (covered_after alg None [] ds) (first_covers first) (its_others w),
      );
    }
      where
        its_others : IsWhole ds p.stamp → HasNoOthers p.stamp.lists (covered_after alg None [] ds)
        its_others w = subst (λ (a : Alg). HasNoOthers p.stamp.lists (covered_after a None [] ds))
            (one_alg p.stamp w.alg alg w.its f.is_alg.its) w.no_others

    begun_is : (before now : Option Begun) → MatchOption before
        (IfSome now (IsBegunBy p.stamp.lists alg covered m alone)) (λ b. now ≡ Some b) → now ≢ None
        → (c : Begun) × (now ≡ Some c) × (before ≡ None → IsBegunBy p.stamp.lists alg covered m alone c)
        × ((a : Begun) → before ≡ Some a → c ≡ a)
    begun_is None None k some = absurd (some refl)
    begun_is None (Some b) k some = (b, refl, λ e. k, λ a e. absurd (let differ : None ≡ Some a = e in cc))
    begun_is (Some a) now k some =
        (a, k, λ e. absurd (let differ : Some a ≡ None = e in cc), λ b e. some_is a b (Some a) refl e)

    pub fits_run : (run.lapsed ≡ None → IsFound g ds p found) → after.alg ≡ Some alg → after.before ≡ Some m
        → after.lapsed ≡ lapse_with found (chain_number p) (stamp_number p) run.lapsed
        → MatchOption run.begun (IfSome after.begun (IsBegunBy p.stamp.lists alg covered m alone))
        (λ b. after.begun ≡ Some b) → after.begun ≢ None → IsRunPast g ds chains p after
    fits_run lapse is_alg is_before is_lapsed is_begun some =
        let b = begun_is run.begun after.begun is_begun some in
        run_past g ds chains p run after alg m found b.0 h f lapse is_alg is_before is_lapsed b.1
        (λ e first. beginning b.0 first (b.2 e)) b.3

-- ---- the next one

pub next_state : (p q : Place) (last : Bool) (ahead : Option StateValue) → IsNextPlace p q → IsAhead p last ahead
    → IsStateOf q.stamp.stamp ahead
next_state p q last ahead next h =
    (subst (λ (o : Option StampValue). IsAheadBy o last ahead) (follows_next p q next) h).1

-- a refusal at a place is the verdict
pub refused_there : (g : Grounds) (ds : Objects) (chains : Chains) (p : Place) (r : EvidenceRefused)
    → IsRunOf g ds chains p (Err r) → IsChainsVerdict g ds chains (Err r)
refused_there g ds chains p (refused.Record failed) h = h
refused_there g ds chains p (refused.Stamp chain stamp failed) h = h
refused_there g ds chains p (refused.Device fault) h = h

-- ---- what is kept

pub begun_some : (N S : Type 0) (o : Option Begun) (b c : Begun) → o ≡ Some b → c ≡ b
    → MatchOption o N (λ x. Some c ≡ Some x)
begun_some N S None b c e is = absurd (let differ : None ≡ Some b = e in cc)
begun_some N S (Some x) b c e is = cc

pub begun_none : (P : Begun → Type 0) (S : Begun → Type 0) (o : Option Begun) (c r : Begun) → o ≡ None → c ≡ r → P r
    → MatchOption o (P c) S
begun_none P S None c r e is h = subst P (sym is) h
begun_none P S (Some x) c r e is h = absurd (let differ : Some x ≡ None = e in cc)

pub is_around : (g : Grounds) (ds : Objects) (p : Place) (before : Option ℕ) (alg : Option Alg) (covered : Covered)
    (latest : Option ℕ) (last : Bool) (ahead : Option StateValue) → IsChainAlg p alg
    → ((a : Alg) → alg ≡ Some a → AreValues a covered (covered_at a ds p)) → IsMomentOf (preceding p) before
    → latest ≡ (if last then g.at else None) → IsAheadBy (following p) last ahead
    → IsAround g ds p (record { alg = alg; covered = covered; before = before; latest = latest })
is_around g ds p before alg covered latest last ahead chain covers moment late h = record {
  alg = chain;
  covered = covers;
  before = moment;
  latest = subst (λ (o : Option ℕ). IsLatestBy (following p) g.at o) (sym late)
      (latest_by (following p) last ahead g.at h);
}

-- the algorithm of its chain is that with which it fits
pub chain_is : (p : Place) (known : Option Alg) (alg : Alg) → IsChainAlg p known → IsAlgOf p alg → known ≡ Some alg
chain_is p None alg h k = absurd (h k.first alg k.is_first k.same)
chain_is p (Some other) alg h k =
    let first : h.0 ≡ k.first = some_is h.0 k.first (first_beside p) h.1 k.is_first in
    let same : other ≡ alg = one_alg k.first other alg (subst (λ (s : StampValue). HasAlg s other) first h.2) k.same in
    ap some_alg same
  where
    some_alg : Alg → Option Alg
    some_alg a = Some a
