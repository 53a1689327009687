-- Without their last time-stamp chains show the same at its moment.
use Rattle.std.proofs.Common.{◌≡◌, ◌≢◌, ◌⊎◌, ℕ, ◌+◌, ◌≤◌, List, [], ◌∷◌, ◌++◌, length, Option, Some}
use Rattle.std.proofs.Common.{refl, sym, ap, ◌∙◌, subst, inl, inr, arith, append_assoc, append-nil}
use Rattle.std.proofs.lemmas.List.{length-append}
use Rattle.std.proofs.lemmas.Grind.{flat_map-append}
use Rattle.evidence_types.specs.StampValue.{StampValue}
use Rattle.check_evidence.specs.Grounds.{Grounds, terms_of, of_root}
use Rattle.check_evidence.specs.Places.{Place, IsIn, chain_of, first_of, last_of, stamps_of, first_beside, preceding}
use Rattle.check_evidence.specs.StampStates.{HasTime, IsUntilBy}
use Rattle.check_evidence.specs.Standing.{IsLater, IsInTime, Stands}
use Rattle.check_evidence.specs.Showing.{IsFirst}
use Rattle.judge_evidence.specs.ShowingChains.{IsRenewal}
use Rattle.judge_evidence.specs.ShowingLaws.{held_at, ChainsShowBefore}
use Rattle.check_evidence.proofs.Places.{SameSplit}
use Rattle.check_evidence.proofs.States.{one_time, passing_time}
use Rattle.judge_evidence.proofs.Ends.{HasEnd, ends, same_end}
use Rattle.judge_evidence.proofs.Following.{Stamps, Chains, all_after, with_after, first_stays, stamps_append}
use Rattle.judge_evidence.proofs.Following.{stands_then}

-- ---- what follows

-- of stamps to which one was added, the first is what it was, if there were any
in_time_before : (l : Stamps) (s : StampValue) (at : Option ℕ) (m n : ℕ) → (l ≡ [] → m ≤ n)
    → IsInTime (first_of (l ++ s ∷ [])) at m → IsInTime (first_of l) (Some n) m
in_time_before [] s at m n earlier h = earlier refl
in_time_before (t ∷ l) s at m n earlier h = tt

until_before : (l : Stamps) (s its : StampValue) (at : Option ℕ) (n until : ℕ) → HasTime s n
    → IsUntilBy (first_of (l ++ s ∷ [])) at its until → IsUntilBy (first_of l) (Some n) its until
until_before [] s its at n until time h = one_time s until n h time
until_before (t ∷ l) s its at n until time h = h

-- ---- one stamp

module _ (g : Grounds) (ds : List (List ℕ)) (s : StampValue) (n : ℕ) (time : HasTime s n) where
  stands_before : (p : Place) (after : Stamps) (later : Chains)
      → first_of (p.before ++ p.stamp ∷ after) ≡ first_beside p
      → after ++ stamps_of later ≡ all_after p ++ s ∷ []
      → ((m : ℕ) → HasTime p.stamp m → all_after p ≡ [] → m ≤ n)
      → Stands g ds (with_after p after later) → Stands (held_at n g) ds p
  stands_before p after later beside follows earlier st =
      let next : first_of (after ++ stamps_of later) ≡ first_of (all_after p ++ s ∷ []) = ap first_of follows in
      stands_then g g.at (Some n) ds p after later beside
      (λ m its h. in_time_before (all_after p) s g.at m n (earlier m its)
      (subst (λ (o : Option StampValue). IsInTime o g.at m) next h))
      (λ end h. until_before (all_after p) s p.stamp g.at n end time
      (subst (λ (o : Option StampValue). IsUntilBy o g.at p.stamp end) next h)) st

-- ---- the last stamp

-- the last of stamps that end with one
last_is : (l : Stamps) (s : StampValue) → last_of (l ++ s ∷ []) ≡ Some s
last_is [] s = refl
last_is (t ∷ []) s = refl
last_is (t ∷ u ∷ l) s = last_is (u ∷ l) s

nothing_in : (l r : Stamps) → l ++ r ≡ [] → r ≡ []
nothing_in [] r h = h
nothing_in (t ∷ l) r h = absurd cc

stamps_at : (p : Place) (chains : Chains) → IsIn chains p
    → stamps_of chains ≡ (stamps_of p.earlier ++ p.before) ++ p.stamp ∷ all_after p
stamps_at p chains there = ap stamps_of there
    ∙ flat_map-append (λ (c : Stamps). c) p.earlier (chain_of p ∷ p.later)
    ∙ ap (λ (l : Stamps). stamps_of p.earlier ++ l) (append_assoc p.before (p.stamp ∷ p.after) (stamps_of p.later))
    ∙ sym (append_assoc (stamps_of p.earlier) p.before (p.stamp ∷ all_after p))

-- after which nothing comes is the last
is_last : (p : Place) (chains : Chains) → IsIn chains p → all_after p ≡ [] → last_of (stamps_of chains) ≡ Some p.stamp
is_last p chains there none = ap last_of (stamps_at p chains there)
    ∙ ap (λ (l : Stamps). last_of ((stamps_of p.earlier ++ p.before) ++ p.stamp ∷ l)) none
    ∙ last_is (stamps_of p.earlier ++ p.before) p.stamp

-- a stamp that stands after all is later than the last of them
later_than : (g : Grounds) (ds : List (List ℕ)) (q : Place) (n m : ℕ) (t : StampValue) → HasTime q.stamp n
    → HasTime t m → preceding q ≡ Some t → Stands g ds q → m ≤ n
later_than g ds q n m t time its is st =
    let f = st.fits in
    let at = passing_time (terms_of g) q.stamp (of_root st.alg f.imprints.root) st.moment f.imprints.passes in
    let same : st.moment ≡ n = one_time q.stamp st.moment n at time in
    let later = subst (λ (o : Option StampValue). IsLater o st.moment) is f.ordered.later in
    let was : later.0 ≡ m = one_time t later.0 m later.1 its in
    omega (arith, later.2)

-- ---- places in the renewed chains

-- in these chains there is a place with the same stamps up to it, and with one more after it
record GoesOnIn (renewed : Chains) (s : StampValue) (p : Place) : Type 0 where
  after : Stamps
  later : Chains
  there : IsIn renewed (with_after p after later)
  beside : first_of (p.before ++ p.stamp ∷ after) ≡ first_beside p
  follows : after ++ stamps_of later ≡ all_after p ++ s ∷ []

-- a chain of its own
module _ (chains renewed : Chains) (s : StampValue) (e : renewed ≡ chains ++ (s ∷ []) ∷ []) where
  goes_on_own : (p : Place) → IsIn chains p → GoesOnIn renewed s p
  goes_on_own p there = record {
    after = p.after;
    later = p.later ++ (s ∷ []) ∷ [];
    there = e ∙ ap (λ (c : Chains). c ++ (s ∷ []) ∷ []) there
        ∙ append_assoc p.earlier (chain_of p ∷ p.later) ((s ∷ []) ∷ []);
    beside = refl;
    follows = ap (λ (l : Stamps). p.after ++ l) (stamps_append p.later ((s ∷ []) ∷ []))
        ∙ sym (append_assoc p.after (stamps_of p.later) (s ∷ []));
  }

-- in the last chain
module _ (front : Chains) (last : Stamps) (renewed : Chains) (s : StampValue)
    (e : renewed ≡ front ++ (last ++ s ∷ []) ∷ []) where
  goes_on_last : (p : Place) → front ++ last ∷ [] ≡ p.earlier ++ chain_of p ∷ p.later → p.later ≡ []
      → GoesOnIn renewed s p
  goes_on_last p there none =
      let same : SameSplit front p.earlier last (chain_of p) [] [] = same_end front p.earlier last (chain_of p)
      (there ∙ ap (λ (c : Chains). p.earlier ++ chain_of p ∷ c) none) in
      let chain : last ++ s ∷ [] ≡ p.before ++ p.stamp ∷ (p.after ++ s ∷ [])
      = ap (λ (l : Stamps). l ++ s ∷ []) same.at ∙ append_assoc p.before (p.stamp ∷ p.after) (s ∷ []) in
      record {
        after = p.after ++ s ∷ [];
        later = [];
        there = e ∙ (λ i. same.before i ++ chain i ∷ []);
        beside = first_stays p.before p.stamp (p.after ++ s ∷ []) p.after;
        follows = append-nil (p.after ++ s ∷ [])
            ∙ ap (λ (l : Stamps). l ++ s ∷ []) (sym (append-nil p.after)
            ∙ ap (λ (c : Chains). p.after ++ stamps_of c) (sym none));
      }

  goes_on_before : (p : Place) → front ++ last ∷ [] ≡ p.earlier ++ chain_of p ∷ p.later → HasEnd p.later
      → GoesOnIn renewed s p
  goes_on_before p there h =
      let same : SameSplit front (p.earlier ++ chain_of p ∷ h.front) last h.end [] []
      = same_end front (p.earlier ++ chain_of p ∷ h.front) last h.end
      (there ∙ ap (λ (c : Chains). p.earlier ++ chain_of p ∷ c) h.is
      ∙ sym (append_assoc p.earlier (chain_of p ∷ h.front) (h.end ∷ []))) in
      let stamps : stamps_of (h.front ++ (h.end ++ s ∷ []) ∷ []) ≡ stamps_of p.later ++ s ∷ []
      = stamps_append h.front ((h.end ++ s ∷ []) ∷ [])
      ∙ ap (λ (l : Stamps). stamps_of h.front ++ l) (append-nil (h.end ++ s ∷ []))
      ∙ sym (append_assoc (stamps_of h.front) h.end (s ∷ []))
      ∙ ap (λ (l : Stamps). l ++ s ∷ []) (ap (λ (l : Stamps). stamps_of h.front ++ l) (sym (append-nil h.end))
      ∙ sym (stamps_append h.front (h.end ∷ [])) ∙ ap stamps_of (sym h.is)) in
      record {
        after = p.after;
        later = h.front ++ (h.end ++ s ∷ []) ∷ [];
        there = e ∙ (λ i. same.before i ++ (same.at i ++ s ∷ []) ∷ [])
            ∙ append_assoc p.earlier (chain_of p ∷ h.front) ((h.end ++ s ∷ []) ∷ []);
        beside = refl;
        follows = ap (λ (l : Stamps). p.after ++ l) stamps ∙ sym (append_assoc p.after (stamps_of p.later) (s ∷ []));
      }

-- ---- all stamps

-- what renews the chains stands after all their stamps
record StandsLast (chains renewed : Chains) (s : StampValue) : Type 0 where
  place : Place
  there : IsIn renewed place
  its : place.stamp ≡ s
  after_all : preceding place ≡ last_of (stamps_of chains)

first_still : (l : Stamps) (s t : StampValue) → l ≢ [] → first_of (l ++ s ∷ []) ≡ Some t → first_of l ≡ Some t
first_still [] s t some h = absurd (some refl)
first_still (u ∷ l) s t some h = h

first_yet : (l : Stamps) (s t : StampValue) → first_of l ≡ Some t → first_of (l ++ s ∷ []) ≡ Some t
first_yet [] s t h = absurd cc
first_yet (u ∷ l) s t h = h

module _ (chains : Chains) (s : StampValue) (renewed : Chains) (r : IsRenewal chains s renewed) where
  stamps_in : stamps_of chains ≡ stamps_of r.front ++ r.last
  stamps_in = ap stamps_of r.is ∙ stamps_append r.front (r.last ∷ [])
      ∙ ap (λ (l : Stamps). stamps_of r.front ++ l) (append-nil r.last)

  some_stamps : stamps_of chains ≢ []
  some_stamps none = r.some (nothing_in (stamps_of r.front) r.last (sym stamps_in ∙ none))

  goes_on_in : (p : Place) → IsIn chains p → GoesOnIn renewed s p
  goes_on_in p there = by r.more
    where
      by_end : renewed ≡ r.front ++ (r.last ++ s ∷ []) ∷ [] → (p.later ≡ []) ⊎ HasEnd p.later → GoesOnIn renewed s p
      by_end e (inl none) = goes_on_last r.front r.last renewed s e p (sym r.is ∙ there) none
      by_end e (inr h) = goes_on_before r.front r.last renewed s e p (sym r.is ∙ there) h

      by : (renewed ≡ r.front ++ (r.last ++ s ∷ []) ∷ []) ⊎ (renewed ≡ chains ++ (s ∷ []) ∷ [])
          → GoesOnIn renewed s p
      by (inl e) = by_end e (ends p.later)
      by (inr e) = goes_on_own chains renewed s e p there

  stamps_after : stamps_of renewed ≡ stamps_of chains ++ s ∷ []
  stamps_after = by r.more
    where
      by : (renewed ≡ r.front ++ (r.last ++ s ∷ []) ∷ []) ⊎ (renewed ≡ chains ++ (s ∷ []) ∷ [])
          → stamps_of renewed ≡ stamps_of chains ++ s ∷ []
      by (inl e) = ap stamps_of e ∙ stamps_append r.front ((r.last ++ s ∷ []) ∷ [])
          ∙ ap (λ (l : Stamps). stamps_of r.front ++ l) (append-nil (r.last ++ s ∷ []))
          ∙ sym (append_assoc (stamps_of r.front) r.last (s ∷ []))
          ∙ ap (λ (l : Stamps). l ++ s ∷ []) (sym stamps_in)
      by (inr e) = ap stamps_of e ∙ stamps_append chains ((s ∷ []) ∷ [])

  stands_last : StandsLast chains renewed s
  stands_last = by r.more
    where
      by : (renewed ≡ r.front ++ (r.last ++ s ∷ []) ∷ []) ⊎ (renewed ≡ chains ++ (s ∷ []) ∷ [])
          → StandsLast chains renewed s
      by (inl e) = record {
        place = record { earlier = r.front; before = r.last; stamp = s; after = []; later = [] };
        there = e;
        its = refl;
        after_all = ap last_of (sym stamps_in);
      }
      by (inr e) = record {
        place = record { earlier = chains; before = []; stamp = s; after = []; later = [] };
        there = e;
        its = refl;
        after_all = ap last_of (append-nil (stamps_of chains));
      }

-- the first of them stays the first
pub first_before : (chains renewed : Chains) (s t : StampValue) → IsRenewal chains s renewed → IsFirst renewed t
    → IsFirst chains t
first_before chains renewed s t r h = first_still (stamps_of chains) s t (some_stamps chains s renewed r)
    (ap first_of (sym (stamps_after chains s renewed r)) ∙ h)

pub first_after : (chains renewed : Chains) (s t : StampValue) → IsRenewal chains s renewed → IsFirst chains t
    → IsFirst renewed t
first_after chains renewed s t r h = ap first_of (stamps_after chains s renewed r)
    ∙ first_yet (stamps_of chains) s t h

pub chains_show_before : ChainsShowBefore
chains_show_before g chains renewed s ds m n r time h = record {
  stands = stands;
  first = h.first;
  is_first = first_before chains renewed s h.first r h.is_first;
  moment = h.moment;
}
  where
    last : StandsLast chains renewed s
    last = stands_last chains s renewed r

    earlier : (p : Place) → IsIn chains p → (k : ℕ) → HasTime p.stamp k → all_after p ≡ [] → k ≤ n
    earlier p there k its none =
        later_than g ds last.place n k p.stamp (subst (λ (x : StampValue). HasTime x n) (sym last.its) time) its
        (last.after_all ∙ is_last p chains there none) (h.stands last.place last.there)

    stands : (p : Place) → IsIn chains p → Stands (held_at n g) ds p
    stands p there =
        let on = goes_on_in chains s renewed r p there in
        stands_before g ds s n time p on.after on.later on.beside on.follows (earlier p there)
        (h.stands (with_after p on.after on.later) on.there)
