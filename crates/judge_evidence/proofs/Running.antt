-- What is known stays known from place to place, and in the end gives the verdict.
use Rattle.std.proofs.Common.{◌≡◌, ℕ, true, false, List, ◌∷◌, ◌++◌, length, ◌+◌, Option, Some, None, MatchOption}
use Rattle.std.proofs.Common.{inl, inr, refl, sym, ap, ◌∙◌, subst}
use Rattle.digests.specs.declared.algorithm.Alg.{Alg}
use Rattle.evidence_types.specs.StampValue.{StampValue}
use Rattle.check_evidence.specs.declared.rules.StampRule.{StampRule}
use Rattle.check_evidence.specs.declared.rules.StampRule.TheVariants as rule
use Rattle.check_evidence.specs.Grounds.{Grounds, terms_of, of_root}
use Rattle.check_evidence.specs.Places.{Place, IsIn, IsBefore, chain_number, stamp_number, first_of, stamps_of}
use Rattle.check_evidence.specs.Places.{following}
use Rattle.check_evidence.specs.Standing.{FitsIn, Stands}
use Rattle.check_evidence.specs.Showing.{IsFirst, IsWhole}
use Rattle.check_evidence.specs.Failing.{FailsToFit, FailsToLast}
use Rattle.check_evidence.specs.Refusing.{Fits, StampFails}
use Rattle.evidence_stamps.specs.PlaceValues.{IsMomentOf}
use Rattle.judge_evidence.specs.Going.{IsFirstPlace, IsLastPlace, IsNextPlace, IsUpTo, GoesOn, chains_of}
use Rattle.judge_evidence.specs.ShowingChains.{ShowsChains}
use Rattle.judge_evidence.specs.Running.{KnowsChainAlg, ShowsTime, ShowsUntil}
use Rattle.judge_evidence.specs.Running.{IsLapse, IsBeginning, IsBegun, IsRunAt, IsRunPast, IsRunOver}
use Rattle.judge_evidence.specs.Running.{IsFound, FailsAt, lapse_with}
use Rattle.judge_evidence.specs.declared.run.Lapse.{Lapse}
use Rattle.judge_evidence.specs.declared.run.Begun.{Begun}
use Rattle.judge_evidence.specs.declared.run.Run.{Run}
use Rattle.judge_evidence.proofs.Going.{first_begins, next_goes_on, last_ends}
use Rattle.judge_evidence.proofs.Neighbours.{follows_next, none_follows, before_next, none_before, same_beside}
use Rattle.check_evidence.proofs.States.{some_is, passing_time}

abbrev Objects : Type 0
Objects = List (List ℕ)

abbrev Chains : Type 0
Chains = List (List StampValue)

-- ---- what was judged

-- as much was judged by either
lapse_among : (g : Grounds) (ds : Objects) (chains : Chains) (A B : Place → Type 0) (l : Option Lapse)
    → ((q : Place) → IsIn chains q → A q → B q) → ((q : Place) → IsIn chains q → B q → A q) → IsLapse g ds chains A l
    → IsLapse g ds chains B l
lapse_among g ds chains A B None to from h = λ q there b. h q there (from q there b)
lapse_among g ds chains A B (Some l) to from h = record {
  place = h.place;
  there = h.there;
  judged = to h.place h.there h.judged;
  is_chain = h.is_chain;
  is_stamp = h.is_stamp;
  before = h.before;
  fails = h.fails;
}

in_these : (chains : Chains) (p r : Place) → IsIn chains p → IsIn chains r → IsIn (chains_of p) r
in_these chains p r h k = sym h ∙ k

-- ---- the first place

pub first_run : (g : Grounds) (ds : Objects) (chains : Chains) (p : Place) (run : Run) → IsIn chains p
    → IsFirstPlace p → run.before ≡ None → run.lapsed ≡ None → run.begun ≡ None → IsRunAt g ds chains p run
first_run g ds chains p run there first b l s = record {
  there = there;
  alg = λ some. absurd (some first.no_stamp);
  before = subst (λ (o : Option StampValue). IsMomentOf o run.before) (sym (none_before p first)) b;
  fit = λ q _ h. absurd (first_begins p first q h);
  lapse = λ _. subst (λ (o : Option Lapse). IsLapse g ds chains (λ q. IsBefore q p) o) (sym l)
      (λ q _ h. absurd (first_begins p first q h));
  begun = subst (λ (o : Option Begun). IsBegun g ds chains p o) (sym s) first;
}

-- ---- the next place

module _ (g : Grounds) (ds : Objects) (chains : Chains) (p q : Place) (run : Run) (next : IsNextPlace p q)
    (h : IsRunPast g ds chains p run) where
  goes : GoesOn p q
  goes = next_goes_on p q next

  next_alg : IsNextPlace p q → KnowsChainAlg q run.alg
  next_alg (inl k) some = record {
    first = h.alg.first;
    is_first = same_beside p q k ∙ h.alg.is_first;
    alg = h.alg.alg;
    its = h.alg.its;
    is = h.alg.is;
  }
  next_alg (inr k) some = absurd (some k.before)

  next_until : ShowsTime q.stamp → ShowsUntil p
  next_until time s is = subst (λ (x : StampValue). ShowsTime x)
      (some_is q.stamp s (following p) (follows_next p q next) is) time

  pub next_run : IsRunAt g ds chains q run
  next_run = record {
    there = h.there ∙ sym goes.same;
    alg = next_alg next;
    before = subst (λ (o : Option StampValue). IsMomentOf o run.before) (sym (before_next p q next))
        (h.moment, h.time, h.before);
    fit = λ r there k. h.fit r there ((goes.order r (in_these chains p r h.there there)).0 k);
    lapse = λ time. lapse_among g ds chains (λ r. IsUpTo r p) (λ r. IsBefore r q) run.lapsed
        (λ r there k. (goes.order r (in_these chains p r h.there there)).1 k)
        (λ r there k. (goes.order r (in_these chains p r h.there there)).0 k) (h.lapse (next_until time));
    begun = subst (λ (o : Option Begun). IsBegun g ds chains q o) (sym h.begun) h.is_beginning;
  }

-- ---- no place is left

pub last_run : (g : Grounds) (ds : Objects) (chains : Chains) (p : Place) (run : Run) → IsLastPlace p
    → IsRunPast g ds chains p run → IsRunOver g ds chains run
last_run g ds chains p run last h = record {
  fit = λ q there _. h.fit q there (ends q there);
  lapse = lapse_among g ds chains (λ q. IsUpTo q p) (λ q. Unit {0}) run.lapsed (λ q there _. tt)
      (λ q there _. ends q there) (h.lapse none);
  beginning = h.beginning;
  begun = h.begun;
  is_beginning = h.is_beginning;
}
  where
    ends : (q : Place) → IsIn chains q → IsUpTo q p
    ends q there = last_ends p last q (in_these chains p q h.there there)

    none : ShowsUntil p
    none s is = absurd (let no : Some s ≡ None = sym is ∙ none_follows p last in cc)

-- ---- a place that was judged

module _ (g : Grounds) (ds : Objects) (chains : Chains) (p : Place) where
  up_to_all : (A : Place → Type 0) → ((q : Place) → IsIn chains q → IsBefore q p → A q) → A p → (q : Place)
      → IsIn chains q → IsUpTo q p → A q
  up_to_all A before here q there (inl k) = before q there k
  up_to_all A before here q there (inr k) = subst A (sym k) here

  lapse_past : (found : Option StampRule) (l : Option Lapse) → IsIn chains p
      → IsLapse g ds chains (λ q. IsBefore q p) l
      → (l ≡ None → MatchOption found (Stands g ds p) (λ r. FailsToLast g ds p r))
      → IsLapse g ds chains (λ q. IsUpTo q p) (lapse_with found (chain_number p) (stamp_number p) l)
  lapse_past found (Some l) there h f = record {
    place = h.place;
    there = h.there;
    judged = inl h.judged;
    is_chain = h.is_chain;
    is_stamp = h.is_stamp;
    before = h.before;
    fails = h.fails;
  }
  lapse_past None None there h f = up_to_all (λ q. Stands g ds q) h (f refl)
  lapse_past (Some r) None there h f = record {
    place = p;
    there = there;
    judged = inr refl;
    is_chain = refl;
    is_stamp = refl;
    before = h;
    fails = f refl;
  }

  -- it was the first of all, or that is known
  beginning_past : (b b' : Option Begun) (c : Begun) → IsIn chains p → IsBegun g ds chains p b → b' ≡ Some c
      → (b ≡ None → IsFirstPlace p → IsBeginning g ds chains c) → ((a : Begun) → b ≡ Some a → c ≡ a)
      → IsBeginning g ds chains c
  beginning_past None b' c there h e new old = new refl h
  beginning_past (Some a) b' c there h e new old =
      subst (λ (x : Begun). IsBeginning g ds chains x) (sym (old a refl)) h

  pub run_past : (run after : Run) (alg : Alg) (m : ℕ) (found : Option StampRule) (c : Begun)
      → IsRunAt g ds chains p run → FitsIn g ds p alg m → (run.lapsed ≡ None → IsFound g ds p found)
      → after.alg ≡ Some alg
      → after.before ≡ Some m
      → after.lapsed ≡ lapse_with found (chain_number p) (stamp_number p) run.lapsed
      → after.begun ≡ Some c
      → (run.begun ≡ None → IsFirstPlace p → IsBeginning g ds chains c)
      → ((a : Begun) → run.begun ≡ Some a → c ≡ a)
      → IsRunPast g ds chains p after
  run_past run after alg m found c h f lapse is_alg is_before is_lapsed is_begun new old =
      let time = passing_time (terms_of g) p.stamp (of_root alg f.imprints.root) m f.imprints.passes in
      record {
        there = h.there;
        alg = record {
          first = f.is_alg.first;
          is_first = f.is_alg.is_first;
          alg = alg;
          its = f.is_alg.same;
          is = is_alg;
        };
        moment = m;
        before = is_before;
        time = time;
        fit = up_to_all (λ q. Fits g ds q) h.fit (alg, m, f);
        lapse = λ until. subst (λ (o : Option Lapse). IsLapse g ds chains (λ q. IsUpTo q p) o) (sym is_lapsed)
            (lapse_past found run.lapsed h.there (h.lapse (m, time)) (λ none. lapse none until));
        beginning = c;
        begun = is_begun;
        is_beginning = beginning_past run.begun after.begun c h.there h.begun is_begun new old;
      }

  -- one that doesn't fit is the first
  pub unfit_fails : (run : Run) (failed : StampRule) → IsRunAt g ds chains p run → FailsToFit g ds p failed
      → StampFails g ds chains p failed
  unfit_fails run rule.Algorithm h k = record { is_in = h.there; before = h.fit; fails = k }
  unfit_fails run rule.HashLength h k = record { is_in = h.there; before = h.fit; fails = k }
  unfit_fails run rule.NotCovered h k = record { is_in = h.there; before = h.fit; fails = k }
  unfit_fails run (rule.Token failed) h k = record { is_in = h.there; before = h.fit; fails = k }
  unfit_fails run rule.Order h k = record { is_in = h.there; before = h.fit; fails = k }
  unfit_fails run rule.Weak h k = absurd k
  unfit_fails run rule.Lapsed h k = absurd k
  unfit_fails run rule.Others h k = absurd k

-- ---- the verdict

module _ (g : Grounds) (ds : Objects) (chains : Chains) (run : Run) (h : IsRunOver g ds chains run) where
  lapse_fails : (p : Place) (failed : StampRule) → IsIn chains p
      → ((q : Place) → IsIn chains q → IsBefore q p → Stands g ds q) → FailsToLast g ds p failed
      → StampFails g ds chains p failed
  lapse_fails p rule.Weak there before k = record {
    is_in = there;
    all_fit = λ q is. h.fit q is tt;
    before = before;
    fails = k;
  }
  lapse_fails p rule.Lapsed there before k = record {
    is_in = there;
    all_fit = λ q is. h.fit q is tt;
    before = before;
    fails = k;
  }
  lapse_fails p rule.Algorithm there before k = absurd k
  lapse_fails p rule.HashLength there before k = absurd k
  lapse_fails p rule.NotCovered there before k = absurd k
  lapse_fails p (rule.Token failed) there before k = absurd k
  lapse_fails p rule.Order there before k = absurd k
  lapse_fails p rule.Others there before k = absurd k

  pub lapsed_fails : (l : Lapse) → run.lapsed ≡ Some l → FailsAt g ds chains l.chain l.stamp l.rule
  lapsed_fails l is =
      let k = subst (λ (o : Option Lapse). IsLapse g ds chains (λ q. Unit {0}) o) is h.lapse in
      record {
        place = k.place;
        is_chain = k.is_chain;
        is_stamp = k.is_stamp;
        fails = lapse_fails k.place l.rule k.there k.before k.fails;
      }

  all_stand : run.lapsed ≡ None → (q : Place) → IsIn chains q → Stands g ds q
  all_stand none q there =
      subst (λ (o : Option Lapse). IsLapse g ds chains (λ q. Unit {0}) o) none h.lapse q there tt

  pub others_fail : (b : Begun) → run.lapsed ≡ None → run.begun ≡ Some b → b.others ≡ true
      → FailsAt g ds chains 1 1 rule.Others
  others_fail b none is others =
      let k = subst (λ (x : Begun). IsBeginning g ds chains x) (some_is h.beginning b run.begun h.begun is)
      h.is_beginning in
      record {
        place = k.place;
        is_chain = ap (λ (l : Chains). length l + 1) (sym k.is_first.no_chain);
        is_stamp = ap (λ (l : List StampValue). length l + 1) (sym k.is_first.no_stamp);
        fails = record {
          is_in = k.there;
          first_chain = k.is_first.no_chain;
          first_stamp = k.is_first.no_stamp;
          all_stand = all_stand none;
          whole = (k.others others).0;
          others = (k.others others).1;
          is = refl;
        };
      }

  -- the first place is that of the first stamp
  first_is : (p : Place) → IsIn chains p → IsFirstPlace p → IsFirst chains p.stamp
  first_is p there first = ap (λ (c : Chains). first_of (stamps_of c)) there
      ∙ (λ i. first_of (stamps_of (first.no_chain i ++ (first.no_stamp i ++ p.stamp ∷ p.after) ∷ p.later)))

  pub over_shows : (b : Begun) → run.lapsed ≡ None → run.begun ≡ Some b → b.others ≡ false
      → ShowsChains g chains ds b.moment
      × (g.whole ≡ true → (first : StampValue) → IsFirst chains first → IsWhole ds first)
  over_shows b none is others =
      let k = subst (λ (x : Begun). IsBeginning g ds chains x) (some_is h.beginning b run.begun h.begun is)
      h.is_beginning in
      let its = first_is k.place k.there k.is_first in (
        record { stands = all_stand none; first = k.place.stamp; is_first = its; moment = k.moment },
        λ e first is_first. subst (λ (s : StampValue). IsWhole ds s)
            (some_is k.place.stamp first (first_of (stamps_of chains)) its is_first) (k.whole others e),
      )
