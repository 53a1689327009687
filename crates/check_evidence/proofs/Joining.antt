-- Values in ascending order with one more put in at its place are all of them in ascending order.
use Rattle.std.proofs.Common.{◌≡◌, ℕ, Bool, true, false, not, ◌&&◌, List, [], ◌∷◌, ◌++◌, refl, sym, ap, ◌∙◌}
use Rattle.std.proofs.Common.{IsPermutation, append_assoc, if◌then◌else◌}
use Rattle.std.specs.List.{concat}
use Rattle.std.proofs.lemmas.List.Sorted.{IsPermutation-refl, IsPermutation-cons, IsPermutation-trans}
use Rattle.std.proofs.lemmas.List.Sorted.{IsPermutation-middle}
use Rattle.der_core.specs.Lists.{is_less}
use Rattle.digests.specs.Messages.{digest_of}
use Rattle.digests.specs.declared.algorithm.Alg.{Alg}
use Rattle.check_evidence.specs.Roots.{IsAscending, InOrder, IsGroupOf}
use Rattle.check_evidence.specs.Joining.{ascends, ascends_after, put_in}
use Rattle.check_evidence.proofs.Orders.{less_is_not}

abbrev Values : Type 0
Values = List (List ℕ)

-- ---- the test

pub ascending_after : (v : List ℕ) (values : Values) → ascends_after v values ≡ true → IsAscending (v ∷ values)
ascending_after v [] h = tt
ascending_after v (w ∷ values) h = go (is_less w v) (ascends_after w values) refl (ascending_after w values) h
  where
    go : (a b : Bool) → is_less w v ≡ a → (b ≡ true → IsAscending (w ∷ values)) → (not a && b) ≡ true
        → (is_less w v ≡ false) × IsAscending (w ∷ values)
    go true b e rest h = absurd cc
    go false true e rest h = (e, rest refl)
    go false false e rest h = absurd cc

pub ascending : (values : Values) → ascends values ≡ true → IsAscending values
ascending [] h = tt
ascending (v ∷ values) h = ascending_after v values h

ascends_then : (v : List ℕ) (values : Values) → IsAscending (v ∷ values) → ascends_after v values ≡ true
ascends_then v [] h = refl
ascends_then v (w ∷ values) h = rw (h.0, ascends_then w values h.1) refl

pub ascends_if : (values : Values) → IsAscending values → ascends values ≡ true
ascends_if [] h = refl
ascends_if (v ∷ values) h = ascends_then v values h

-- ---- putting in

-- two values at the front change places
swapped : (v w : List ℕ) (values : Values) → IsPermutation (v ∷ w ∷ values) (w ∷ v ∷ values)
swapped v w values = IsPermutation-middle (v ∷ []) w values

put_in_are : (node : List ℕ) (values : Values) → IsPermutation (node ∷ values) (put_in node values)
put_in_are node [] = IsPermutation-refl (node ∷ [])
put_in_are node (v ∷ values) = go (is_less v node) (put_in_are node values)
  where
    go : (b : Bool) → IsPermutation (node ∷ values) (put_in node values)
        → IsPermutation (node ∷ v ∷ values) (if b then v ∷ put_in node values else node ∷ v ∷ values)
    go true rest = IsPermutation-trans (node ∷ v ∷ values) (v ∷ node ∷ values) (v ∷ put_in node values)
        (swapped node v values) (IsPermutation-cons v (node ∷ values) (put_in node values) rest)
    go false rest = IsPermutation-refl (node ∷ v ∷ values)

-- a value that is no later than the node and the next value is no later than the first of them
put_in_ascends_after : (v node : List ℕ) (values : Values) → is_less node v ≡ false → IsAscending (v ∷ values)
    → IsAscending (v ∷ put_in node values)
put_in_ascends_after v node [] e up = (e, tt)
put_in_ascends_after v node (w ∷ values) e up =
    go (is_less w node) refl (λ less. put_in_ascends_after w node values (less_is_not w node less) up.1)
  where
    go : (b : Bool) → is_less w node ≡ b → (is_less w node ≡ true → IsAscending (w ∷ put_in node values))
        → IsAscending (v ∷ (if b then w ∷ put_in node values else node ∷ w ∷ values))
    go true is rest = (up.0, rest is)
    go false is rest = (e, (is, up.1))

put_in_ascends : (node : List ℕ) (values : Values) → IsAscending values → IsAscending (put_in node values)
put_in_ascends node [] up = tt
put_in_ascends node (v ∷ values) up =
    go (is_less v node) refl (λ less. put_in_ascends_after v node values (less_is_not v node less) up)
  where
    go : (b : Bool) → is_less v node ≡ b → (is_less v node ≡ true → IsAscending (v ∷ put_in node values))
        → IsAscending (if b then v ∷ put_in node values else node ∷ v ∷ values)
    go true is rest = rest is
    go false is rest = (is, up)

pub put_in_order : (node : List ℕ) (values : Values) → IsAscending values → InOrder (node ∷ values) (put_in node values)
put_in_order node values up = record { are = put_in_are node values; ascending = put_in_ascends node values up }

-- ---- groups

pub group_here : (alg : Alg) (values : Values) (octets : List ℕ) → IsAscending values
    → octets ≡ digest_of alg (concat values) → IsGroupOf alg values octets
group_here alg values octets up is = record {
  ordered = values;
  in_order = record { are = IsPermutation-refl values; ascending = up };
  hashed = is;
}

pub group_there : (alg : Alg) (node : List ℕ) (values : Values) (octets : List ℕ) → IsAscending values
    → octets ≡ digest_of alg (concat (put_in node values)) → IsGroupOf alg (node ∷ values) octets
group_there alg node values octets up is = record {
  ordered = put_in node values;
  in_order = put_in_order node values up;
  hashed = is;
}

-- ---- octets

pub before_put_in : (node v : List ℕ) (values : Values) → is_less v node ≡ true
    → concat (put_in node (v ∷ values)) ≡ v ++ concat (put_in node values)
before_put_in node v values e =
    ap (λ (b : Bool). concat (if b then v ∷ put_in node values else node ∷ v ∷ values)) e

put_in_here : (node v : List ℕ) (values : Values) → is_less v node ≡ false
    → concat (put_in node (v ∷ values)) ≡ node ++ concat (v ∷ values)
put_in_here node v values e =
    ap (λ (b : Bool). concat (if b then v ∷ put_in node values else node ∷ v ∷ values)) e

-- the next piece is fed
pub fed_further : (all fed piece rest next : List ℕ) → all ≡ fed ++ rest → rest ≡ piece ++ next
    → all ≡ (fed ++ piece) ++ next
fed_further all fed piece rest next h e =
    h ∙ ap (λ (x : List ℕ). fed ++ x) e ∙ sym (append_assoc fed piece next)
