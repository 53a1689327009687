-- Going on from one place to the next meets each in the same chains.
use Rattle.std.proofs.Common.{◌≡◌, ◌⊎◌, ◌+◌, ◌<◌, List, [], ◌∷◌, ◌++◌, length, refl, sym, ap, ◌∙◌, subst, arith}
use Rattle.std.proofs.Common.{inl, inr, append_assoc}
use Rattle.std.proofs.lemmas.Bool.{cases_order}
use Rattle.std.proofs.lemmas.List.{length-append}
use Rattle.evidence_types.specs.StampValue.{StampValue}
use Rattle.check_evidence.specs.Places.{Place, IsIn, IsBefore, chain_of, chain_number, stamp_number}
use Rattle.judge_evidence.specs.Going.{chains_of, IsNextInChain, BeginsNextChain}
use Rattle.judge_evidence.specs.Going.{IsUpTo}
use Rattle.judge_evidence.specs.Going.{NeverBeforeItself, NeverBothBefore, NextGoesOn, LastEnds, FirstBegins}
use Rattle.check_evidence.proofs.Places.{same_chain, same_place}

abbrev Chains : Type 0
Chains = List (List StampValue)

pub never_itself : NeverBeforeItself
never_itself p (inl h) = omega arith
never_itself p (inr h) = omega (arith, h.1)

pub never_both : NeverBothBefore
never_both p q (inl h) (inl k) = omega arith
never_both p q (inl h) (inr k) = omega (arith, k.0)
never_both p q (inr h) (inl k) = omega (arith, h.0)
never_both p q (inr h) (inr k) = omega (arith, h.1, k.1)

pub first_begins : FirstBegins
first_begins p h r (inl k) = omega (arith, ap (λ (l : Chains). length l) h.no_chain)
first_begins p h r (inr k) = omega (arith, k.1, ap (λ (l : List StampValue). length l) h.no_stamp)

-- ---- going on

length_snoc : {A : Type 0} (xs : List A) (x : A) → length (xs ++ x ∷ []) ≡ length xs + 1
length_snoc xs x = length-append xs (x ∷ []) ∙ refl

-- ---- in a chain

module _ (p q : Place) (h : IsNextInChain p q) where
  in_chain_chain : chain_of q ≡ chain_of p
  in_chain_chain = ap (λ (l : List StampValue). l ++ q.stamp ∷ q.after) h.before
      ∙ append_assoc p.before (p.stamp ∷ []) (q.stamp ∷ q.after)
      ∙ ap (λ (l : List StampValue). p.before ++ p.stamp ∷ l) (sym h.after)

  in_chain_same : chains_of q ≡ chains_of p
  in_chain_same = λ i. h.earlier i ++ in_chain_chain i ∷ h.later i

  in_chain_number : chain_number q ≡ chain_number p
  in_chain_number = ap (λ (l : Chains). length l + 1) h.earlier

  in_chain_stamp : stamp_number q ≡ stamp_number p + 1
  in_chain_stamp = let e = ap (λ (l : List StampValue). length l) h.before in
      omega (arith, length_snoc p.before p.stamp)

  in_chain_up_to : (r : Place) → IsIn (chains_of p) r → IsBefore r q → IsUpTo r p
  in_chain_up_to r there (inl k) = inl (inl (omega (arith, in_chain_number)))
  in_chain_up_to r there (inr k) = by (cases_order (stamp_number r) (stamp_number p))
    where
      same : chain_number r ≡ chain_number p
      same = k.0 ∙ in_chain_number

      by : (stamp_number r ≡ stamp_number p) ⊎ ((stamp_number r < stamp_number p)
          ⊎ (stamp_number p < stamp_number r)) → IsUpTo r p
      by (inl e) = inr (same_place (chains_of p) r p there refl same e)
      by (inr (inl e)) = inl (inr (same, e))
      by (inr (inr e)) = absurd (omega (arith, k.1, in_chain_stamp))

  in_chain_before : (r : Place) → IsUpTo r p → IsBefore r q
  in_chain_before r (inl (inl k)) = inl (omega (arith, in_chain_number))
  in_chain_before r (inl (inr k)) = inr (k.0 ∙ sym in_chain_number, omega (arith, k.1, in_chain_stamp))
  in_chain_before r (inr e) = subst (λ (x : Place). IsBefore x q) (sym e)
      (inr (sym in_chain_number, omega (arith, in_chain_stamp)))

-- ---- from chain to chain

-- no stamp of a chain is after its last
within : (chains : Chains) (p r : Place) → IsIn chains p → IsIn chains r → p.after ≡ []
    → chain_number r ≡ chain_number p → IsUpTo r p
within chains p r h k last e = by (cases_order (stamp_number r) (stamp_number p))
  where
    lengths : length r.before + length (r.stamp ∷ r.after) ≡ length p.before + 1
    lengths = sym (length-append r.before (r.stamp ∷ r.after))
        ∙ ap (λ (l : List StampValue). length l) (same_chain chains r p k h e).at
        ∙ ap (λ (l : List StampValue). length (p.before ++ p.stamp ∷ l)) last
        ∙ length_snoc p.before p.stamp

    by : (stamp_number r ≡ stamp_number p) ⊎ ((stamp_number r < stamp_number p)
        ⊎ (stamp_number p < stamp_number r)) → IsUpTo r p
    by (inl f) = inr (same_place chains r p k h e f)
    by (inr (inl f)) = inl (inr (e, f))
    by (inr (inr f)) = absurd (omega (arith, lengths))

module _ (p q : Place) (h : BeginsNextChain p q) where
  next_chain_same : chains_of q ≡ chains_of p
  next_chain_same = ap (λ (l : Chains). l ++ chain_of q ∷ q.later) h.earlier
      ∙ append_assoc p.earlier (chain_of p ∷ []) (chain_of q ∷ q.later)
      ∙ ap (λ (l : Chains). p.earlier ++ chain_of p ∷ l) (sym h.later)

  next_chain_number : chain_number q ≡ chain_number p + 1
  next_chain_number = let e = ap (λ (l : Chains). length l) h.earlier in
      omega (arith, length_snoc p.earlier (chain_of p))

  next_chain_stamp : stamp_number q ≡ 1
  next_chain_stamp = ap (λ (l : List StampValue). length l + 1) h.before

  next_chain_up_to : (r : Place) → IsIn (chains_of p) r → IsBefore r q → IsUpTo r p
  next_chain_up_to r there (inl k) = by (cases_order (chain_number r) (chain_number p))
    where
      by : (chain_number r ≡ chain_number p) ⊎ ((chain_number r < chain_number p)
          ⊎ (chain_number p < chain_number r)) → IsUpTo r p
      by (inl e) = within (chains_of p) p r refl there h.after e
      by (inr (inl e)) = inl (inl e)
      by (inr (inr e)) = absurd (omega (arith, next_chain_number))
  next_chain_up_to r there (inr k) = absurd (omega (arith, k.1, next_chain_stamp))

  next_chain_before : (r : Place) → IsUpTo r p → IsBefore r q
  next_chain_before r (inl (inl k)) = inl (omega (arith, next_chain_number))
  next_chain_before r (inl (inr k)) = inl (omega (arith, k.0, next_chain_number))
  next_chain_before r (inr e) = subst (λ (x : Place). IsBefore x q) (sym e) (inl (omega (arith, next_chain_number)))

pub next_goes_on : NextGoesOn
next_goes_on p q (inl h) = record {
  same = in_chain_same p q h;
  order = λ r there. (in_chain_up_to p q h r there, in_chain_before p q h r);
}
next_goes_on p q (inr h) = record {
  same = next_chain_same p q h;
  order = λ r there. (next_chain_up_to p q h r there, next_chain_before p q h r);
}

-- no chain is after the last
pub last_ends : LastEnds
last_ends p h r there = by (cases_order (chain_number r) (chain_number p))
  where
    lengths : length r.earlier + length (chain_of r ∷ r.later) ≡ length p.earlier + 1
    lengths = sym (length-append r.earlier (chain_of r ∷ r.later))
        ∙ ap (λ (l : Chains). length l) (sym there)
        ∙ ap (λ (l : Chains). length (p.earlier ++ chain_of p ∷ l)) h.no_chain
        ∙ length_snoc p.earlier (chain_of p)

    by : (chain_number r ≡ chain_number p) ⊎ ((chain_number r < chain_number p)
        ⊎ (chain_number p < chain_number r)) → IsUpTo r p
    by (inl e) = within (chains_of p) p r refl there h.no_stamp e
    by (inr (inl e)) = inl (inl e)
    by (inr (inr e)) = absurd (omega (arith, lengths))
