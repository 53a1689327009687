-- What chains show that are renewed.
use Rattle.std.proofs.Common.{◌≡◌, ◌⊎◌, ℕ, List, [], ◌∷◌, ◌++◌, Option, Some, refl, sym, ap, ◌∙◌, subst}
use Rattle.std.proofs.Common.{inl, inr, append_assoc, append-nil}
use Rattle.std.proofs.lemmas.Grind.{flat_map-append}
use Rattle.evidence_types.specs.StampValue.{StampValue}
use Rattle.check_evidence.specs.Grounds.{Grounds}
use Rattle.check_evidence.specs.Places.{Place, IsIn, chain_of, first_of, stamps_of, first_beside, following}
use Rattle.check_evidence.specs.StampStates.{HasTime, IsUntilBy}
use Rattle.check_evidence.specs.Standing.{IsInTime, Stands}
use Rattle.judge_evidence.specs.Going.{IsLastPlace}
use Rattle.judge_evidence.specs.ShowingChains.{IsRenewal}
use Rattle.judge_evidence.specs.ShowingLaws.{held_at}
use Rattle.check_evidence.proofs.Places.{SameSplit}
use Rattle.judge_evidence.proofs.Before.{first_after}
use Rattle.judge_evidence.proofs.Ends.{HasEnd, ends, same_end}
use Rattle.judge_evidence.proofs.Following.{Stamps, Chains, all_after, with_after, first_stays, stamps_append}
use Rattle.judge_evidence.proofs.Following.{stands_then}
use Rattle.evidence_making.specs.RenewalLaws.{ChainsShowAfter}

-- ---- one archive time-stamp

-- one more that comes after all
in_time_after : (l : Stamps) (s : StampValue) (at : Option ℕ) (m : ℕ) → IsInTime (first_of (l ++ s ∷ [])) at m
in_time_after [] s at m = tt
in_time_after (t ∷ l) s at m = tt

until_after : (l : Stamps) (s its : StampValue) (at : Option ℕ) (n until : ℕ) → HasTime s n
    → IsUntilBy (first_of l) (Some n) its until → IsUntilBy (first_of (l ++ s ∷ [])) at its until
until_after [] s its at n until time h = subst (λ (k : ℕ). HasTime s k) (sym h) time
until_after (t ∷ l) s its at n until time h = h

-- what was a place in the chains
record WasIn (chains : Chains) (s : StampValue) (q : Place) : Type 0 where
  after : Stamps
  later : Chains
  there : IsIn chains (with_after q after later)
  beside : first_beside q ≡ first_beside (with_after q after later)
  follows : all_after q ≡ (after ++ stamps_of later) ++ s ∷ []

module _ (g : Grounds) (ds : List (List ℕ)) (s : StampValue) (n : ℕ) (time : HasTime s n) where
  stands_after : (chains : Chains) (q : Place) (was : WasIn chains s q)
      → Stands (held_at n g) ds (with_after q was.after was.later) → Stands g ds q
  stands_after chains q was st =
      let left : Stamps = was.after ++ stamps_of was.later in
      let next : first_of (left ++ s ∷ []) ≡ following q = sym (ap first_of was.follows) in
      stands_then g (Some n) g.at ds q was.after was.later (sym was.beside)
      (λ m its h. subst (λ (o : Option StampValue). IsInTime o g.at m) next (in_time_after left s g.at m))
      (λ end h. subst (λ (o : Option StampValue). IsUntilBy o g.at q.stamp end) next
      (until_after left s q.stamp g.at n end time h)) st

-- ---- places in the renewed chains

-- of a last chain with one more time-stamp
stamps_more : (front : Chains) (last : Stamps) (s : StampValue)
    → stamps_of (front ++ (last ++ s ∷ []) ∷ []) ≡ stamps_of (front ++ last ∷ []) ++ s ∷ []
stamps_more front last s = stamps_append front ((last ++ s ∷ []) ∷ [])
    ∙ ap (λ (l : Stamps). stamps_of front ++ l) (append-nil (last ++ s ∷ []))
    ∙ sym (append_assoc (stamps_of front) last (s ∷ []))
    ∙ ap (λ (l : Stamps). l ++ s ∷ []) (ap (λ (l : Stamps). stamps_of front ++ l) (sym (append-nil last))
    ∙ sym (stamps_append front (last ∷ [])))

-- a place is the last, or was there before
abbrev IsLastOrWas : Chains → StampValue → Place → Type 0
IsLastOrWas chains s q = IsLastPlace q ⊎ WasIn chains s q

-- a chain of its own
module _ (chains : Chains) (s : StampValue) (q : Place)
    (there : chains ++ (s ∷ []) ∷ [] ≡ q.earlier ++ chain_of q ∷ q.later) where
  none_behind : (l : Stamps) (t : StampValue) (r : Stamps) → s ∷ [] ≡ l ++ t ∷ r → r ≡ []
  none_behind [] t r e = cc
  none_behind (u ∷ l) t r e = absurd (no l (let z : [] ≡ l ++ t ∷ r = cc in z))
    where
      no : (l : Stamps) → [] ≡ l ++ t ∷ r → ⊥
      no [] e = absurd cc
      no (w ∷ l) e = absurd cc

  own_last : q.later ≡ [] → IsLastPlace q
  own_last none =
      let same : SameSplit chains q.earlier (s ∷ []) (chain_of q) [] []
      = same_end chains q.earlier (s ∷ []) (chain_of q)
      (there ∙ ap (λ (c : Chains). q.earlier ++ chain_of q ∷ c) none) in
      record { no_stamp = none_behind q.before q.stamp q.after same.at; no_chain = none }

  own_before : HasEnd q.later → WasIn chains s q
  own_before h =
      let same : SameSplit chains (q.earlier ++ chain_of q ∷ h.front) (s ∷ []) h.end [] []
      = same_end chains (q.earlier ++ chain_of q ∷ h.front) (s ∷ []) h.end
      (there ∙ ap (λ (c : Chains). q.earlier ++ chain_of q ∷ c) h.is
      ∙ sym (append_assoc q.earlier (chain_of q ∷ h.front) (h.end ∷ []))) in
      record {
        after = q.after;
        later = h.front;
        there = same.before;
        beside = refl;
        follows = ap (λ (c : Chains). q.after ++ stamps_of c) h.is
            ∙ ap (λ (l : Stamps). q.after ++ l) (stamps_append h.front (h.end ∷ [])
            ∙ ap (λ (l : Stamps). stamps_of h.front ++ l) (append-nil h.end ∙ sym same.at))
            ∙ sym (append_assoc q.after (stamps_of h.front) (s ∷ []));
      }

-- in the last chain
module _ (front : Chains) (last : Stamps) (s : StampValue) (q : Place)
    (there : front ++ (last ++ s ∷ []) ∷ [] ≡ q.earlier ++ chain_of q ∷ q.later) where
  abbrev chains : Chains
  chains = front ++ last ∷ []

  in_last : q.later ≡ [] → (q.after ≡ []) ⊎ HasEnd q.after → IsLastOrWas chains s q
  in_last none (inl e) = inl (record { no_stamp = e; no_chain = none })
  in_last none (inr h) =
      let same : SameSplit front q.earlier (last ++ s ∷ []) (chain_of q) [] []
      = same_end front q.earlier (last ++ s ∷ []) (chain_of q)
      (there ∙ ap (λ (c : Chains). q.earlier ++ chain_of q ∷ c) none) in
      let its : SameSplit last (q.before ++ q.stamp ∷ h.front) s h.end [] []
      = same_end last (q.before ++ q.stamp ∷ h.front) s h.end
      (same.at ∙ ap (λ (l : Stamps). q.before ++ q.stamp ∷ l) h.is
      ∙ sym (append_assoc q.before (q.stamp ∷ h.front) (h.end ∷ []))) in
      inr (record {
        after = h.front;
        later = [];
        there = λ i. same.before i ++ its.before i ∷ [];
        beside = first_stays q.before q.stamp q.after h.front;
        follows = ap (λ (c : Chains). q.after ++ stamps_of c) none ∙ append-nil q.after ∙ h.is
            ∙ (λ i. h.front ++ sym its.at i ∷ [])
            ∙ ap (λ (l : Stamps). l ++ s ∷ []) (sym (append-nil h.front));
      })

  before_last : HasEnd q.later → WasIn chains s q
  before_last h =
      let same : SameSplit front (q.earlier ++ chain_of q ∷ h.front) (last ++ s ∷ []) h.end [] []
      = same_end front (q.earlier ++ chain_of q ∷ h.front) (last ++ s ∷ []) h.end
      (there ∙ ap (λ (c : Chains). q.earlier ++ chain_of q ∷ c) h.is
      ∙ sym (append_assoc q.earlier (chain_of q ∷ h.front) (h.end ∷ []))) in
      record {
        after = q.after;
        later = h.front ++ last ∷ [];
        there = ap (λ (c : Chains). c ++ last ∷ []) same.before
            ∙ append_assoc q.earlier (chain_of q ∷ h.front) (last ∷ []);
        beside = refl;
        follows = ap (λ (c : Chains). q.after ++ stamps_of c) (h.is ∙ (λ i. h.front ++ sym same.at i ∷ []))
            ∙ ap (λ (l : Stamps). q.after ++ l) (stamps_more h.front last s)
            ∙ sym (append_assoc q.after (stamps_of (h.front ++ last ∷ [])) (s ∷ []));
      }

-- ---- all of them

module _ (chains : Chains) (s : StampValue) (renewal : Chains) (r : IsRenewal chains s renewal) where
  last_or_was : (q : Place) → IsIn renewal q → IsLastOrWas chains s q
  last_or_was q there = by r.more
    where
      own : chains ++ (s ∷ []) ∷ [] ≡ q.earlier ++ chain_of q ∷ q.later → (q.later ≡ []) ⊎ HasEnd q.later
          → IsLastOrWas chains s q
      own e (inl none) = inl (own_last chains s q e none)
      own e (inr h) = inr (own_before chains s q e h)

      in_chain : r.front ++ (r.last ++ s ∷ []) ∷ [] ≡ q.earlier ++ chain_of q ∷ q.later
          → (q.later ≡ []) ⊎ HasEnd q.later → IsLastOrWas (r.front ++ r.last ∷ []) s q
      in_chain e (inl none) = in_last r.front r.last s q e none (ends q.after)
      in_chain e (inr h) = inr (before_last r.front r.last s q e h)

      by : (renewal ≡ r.front ++ (r.last ++ s ∷ []) ∷ []) ⊎ (renewal ≡ chains ++ (s ∷ []) ∷ [])
          → IsLastOrWas chains s q
      by (inl e) = subst (λ (c : Chains). IsLastOrWas c s q) (sym r.is) (in_chain (sym e ∙ there) (ends q.later))
      by (inr e) = own (sym e ∙ there) (ends q.later)

pub chains_show_after : ChainsShowAfter
chains_show_after g chains renewal s ds m n r time new h = record {
  stands = λ q there. stands q there (last_or_was chains s renewal r q there);
  first = h.first;
  is_first = first_after chains renewal s h.first r h.is_first;
  moment = h.moment;
}
  where
    stands : (q : Place) → IsIn renewal q → IsLastOrWas chains s q → Stands g ds q
    stands q there (inl last) = new q there last
    stands q there (inr was) =
        stands_after g ds s n time chains q was (h.stands (with_after q was.after was.later) was.there)
