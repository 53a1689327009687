-- The places in the same chains stand in one order.
use Rattle.std.proofs.Common.{◌≡◌, ◌⊎◌, ◌<◌, List, [], ◌∷◌, ◌++◌, length, refl, sym, ◌∙◌, arith, inl, inr}
use Rattle.std.proofs.lemmas.Bool.{cases_order}
use Rattle.evidence_types.specs.StampValue.{StampValue}
use Rattle.check_evidence.specs.Places.{Place, IsIn, IsBefore, chain_of, chain_number, stamp_number}

-- two splits of a list with as many elements before are the same
pub record SameSplit {A : Type 0} (xs ys : List A) (x y : A) (tail rest : List A) : Type 0 where
  pub before : xs ≡ ys
  pub at : x ≡ y
  pub after : tail ≡ rest

pub same_split : {A : Type 0} (xs ys : List A) (x y : A) (after rest : List A) → length xs ≡ length ys
    → xs ++ x ∷ after ≡ ys ++ y ∷ rest → SameSplit xs ys x y after rest
same_split [] [] x y after rest e h = record { before = refl; at = cc; after = cc }
same_split [] (w ∷ ys) x y after rest e h = absurd (omega arith)
same_split (v ∷ xs) [] x y after rest e h = absurd (omega arith)
same_split {A} (v ∷ xs) (w ∷ ys) x y after rest e h =
    let tail : xs ++ x ∷ after ≡ ys ++ y ∷ rest = cc in
    let head : v ≡ w = cc in
    let same = same_split xs ys x y after rest (omega arith) tail in
    record { before = λ i. head i ∷ same.before i; at = same.at; after = same.after }

-- places with the same numbers are in the same chain
pub same_chain : (chains : List (List StampValue)) (p q : Place) → IsIn chains p → IsIn chains q
    → chain_number p ≡ chain_number q
    → SameSplit p.earlier q.earlier (chain_of p) (chain_of q) p.later q.later
same_chain chains p q h k e = same_split p.earlier q.earlier (chain_of p) (chain_of q) p.later q.later (omega arith)
    (sym h ∙ k)

-- and are the same
pub same_place : (chains : List (List StampValue)) (p q : Place) → IsIn chains p → IsIn chains q
    → chain_number p ≡ chain_number q → stamp_number p ≡ stamp_number q → p ≡ q
same_place chains p q h k e f =
    let outer = same_chain chains p q h k e in
    let inner = same_split p.before q.before p.stamp q.stamp p.after q.after (omega arith) outer.at in
    λ i. record {
      earlier = outer.before i;
      before = inner.before i;
      stamp = inner.at i;
      after = inner.after i;
      later = outer.after i;
    }

pub places_ordered : (chains : List (List StampValue)) (p q : Place) → IsIn chains p → IsIn chains q
    → IsBefore p q ⊎ ((p ≡ q) ⊎ IsBefore q p)
places_ordered chains p q h k = by_chain (cases_order (chain_number p) (chain_number q))
  where
    by_stamp : chain_number p ≡ chain_number q → (stamp_number p ≡ stamp_number q)
        ⊎ ((stamp_number p < stamp_number q) ⊎ (stamp_number q < stamp_number p))
        → IsBefore p q ⊎ ((p ≡ q) ⊎ IsBefore q p)
    by_stamp e (inl f) = inr (inl (same_place chains p q h k e f))
    by_stamp e (inr (inl f)) = inl (inr (e, f))
    by_stamp e (inr (inr f)) = inr (inr (inr (sym e, f)))

    by_chain : (chain_number p ≡ chain_number q)
        ⊎ ((chain_number p < chain_number q) ⊎ (chain_number q < chain_number p))
        → IsBefore p q ⊎ ((p ≡ q) ⊎ IsBefore q p)
    by_chain (inl e) = by_stamp e (cases_order (stamp_number p) (stamp_number q))
    by_chain (inr (inl f)) = inl (inl f)
    by_chain (inr (inr f)) = inr (inr (inl f))
