-- Where the new time-stamp of a record that is renewed stands.
use Rattle.std.proofs.Common.{◌≡◌, ℕ, ◌<◌, List, [], ◌∷◌, ◌++◌, Option, Some, refl, sym, ap, ◌∙◌, subst}
use Rattle.std.proofs.Common.{append_assoc, append-nil, map}
use Rattle.digests.specs.Messages.{digest_of}
use Rattle.evidence_types.specs.StampValue.{StampValue}
use Rattle.check_evidence.specs.Places.{Place, IsIn, chain_of, first_of, last_of, stamps_of}
use Rattle.check_evidence.specs.StampStates.{HasTime}
use Rattle.check_evidence.specs.Covering.{covered_of, covered_after, covered_at}
use Rattle.check_evidence.specs.Standing.{IsLater, Stands}
use Rattle.judge_evidence.specs.Going.{IsLastPlace}
use Rattle.check_evidence.proofs.Places.{SameSplit}
use Rattle.judge_evidence.proofs.Neighbours.{last_is}
use Rattle.evidence_making.specs.Made.{group_lists, lists_of, stamp_of, stamp_with}
use Rattle.evidence_making.specs.Renewed.{with_stamp}
use Rattle.evidence_making.specs.RenewalLaws.{RenewedStampsStand, RehashedStampsStand}
use Rattle.judge_evidence.proofs.Ends.{same_end}
use Rattle.evidence_making.proofs.Made.{its_alg, last_place, lead_up, group_leads_up, new_stands}
use Rattle.evidence_making.proofs.Renewed.{with_stamp_end}

abbrev Stamps : Type 0
Stamps = List StampValue

abbrev Chains : Type 0
Chains = List (List StampValue)

-- a place after which nothing comes is that of the last
pub at_the_end : (earlier : Chains) (before : Stamps) (s : StampValue) (p : Place)
    → IsIn (earlier ++ (before ++ s ∷ []) ∷ []) p → IsLastPlace p → p ≡ last_place earlier before s
at_the_end earlier before s p there last =
    let none : p.earlier ++ chain_of p ∷ p.later ≡ p.earlier ++ (p.before ++ p.stamp ∷ []) ∷ [] =
    (λ i. p.earlier ++ (p.before ++ p.stamp ∷ last.no_stamp i) ∷ last.no_chain i) in
    let chain : SameSplit earlier p.earlier (before ++ s ∷ []) (p.before ++ p.stamp ∷ []) [] [] =
    same_end earlier p.earlier (before ++ s ∷ []) (p.before ++ p.stamp ∷ []) (there ∙ none) in
    let its : SameSplit before p.before s p.stamp [] [] = same_end before p.before s p.stamp chain.at in
    λ i. record {
      earlier = sym chain.before i;
      before = sym its.before i;
      stamp = sym its.at i;
      after = last.no_stamp i;
      later = last.no_chain i;
    }

is_later : (o : Option StampValue) (last : StampValue) (k m : ℕ) → o ≡ Some last → HasTime last k → k < m → IsLater o m
is_later o last k m e time h = subst (λ (x : Option StampValue). IsLater x m) (sym e) (k, time, h)

first_yet : (l : Stamps) (s t : StampValue) → first_of l ≡ Some t → first_of (l ++ s ∷ []) ≡ Some t
first_yet [] s t h = absurd cc
first_yet (u ∷ l) s t h = h

pub renewed_stamps_stand : RenewedStampsStand
renewed_stamps_stand g v tree values token ds m front before last first k e are is_first its time later t p there end =
    let alg = tree.algorithm in
    let s = stamp_of alg values token in
    let chain : Stamps = before ++ last ∷ [] in
    let chains : with_stamp s v.chains ≡ front ++ (chain ++ s ∷ []) ∷ [] =
    ap (with_stamp s) e ∙ with_stamp_end s front chain in
    let covered : covered_after alg (last_of chain) front ds ≡ digest_of alg last.stamp ∷ [] =
    ap (λ (o : Option StampValue). covered_after alg o front ds) (last_is before last) in
    let before_all : last_of (stamps_of front ++ chain) ≡ Some last =
    ap last_of (sym (append_assoc (stamps_of front) before (last ∷ []))) ∙ last_is (stamps_of front ++ before) last in
    subst (λ (q : Place). Stands g ds q) (sym (at_the_end front chain s p (sym chains ∙ there) end))
    (new_stands g ds tree (lists_of values) token m front chain
    (lead_up tree (digest_of alg last.stamp) values are
    (covered_at alg ds (last_place front chain s)) covered)
    (record {
      its = its_alg alg (lists_of values) token;
      first = first;
      is_first = first_yet chain s first is_first;
      same = its;
    })
    (is_later (last_of (stamps_of front ++ chain)) last k m before_all time later) t)

pub rehashed_stamps_stand : RehashedStampsStand
rehashed_stamps_stand g v tree group values token ds m last k good by are each before_all time later t p there end =
    let alg = tree.algorithm in
    let lists = group_lists group.values values in
    let s = stamp_with alg lists token in
    let all : last_of (stamps_of v.chains ++ []) ≡ Some last =
    ap last_of (append-nil (stamps_of v.chains)) ∙ before_all in
    subst (λ (q : Place). Stands g ds q) (sym (at_the_end v.chains [] s p there end))
    (new_stands g ds tree lists token m v.chains []
    (group_leads_up tree group good by (map (covered_of alg v.chains) ds) each values are)
    (record {
      its = its_alg alg lists token;
      first = s;
      is_first = refl;
      same = its_alg alg lists token;
    })
    (is_later (last_of (stamps_of v.chains ++ [])) last k m all time later) t)
