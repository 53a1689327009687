-- Values in ascending order, each once, are the different ones.
use Rattle.std.proofs.Common.{◌≡◌, ℕ, ◌+◌, ◌<◌, zero, suc, Bool, true, false, List, [], ◌∷◌, length, get_or, map, refl}
use Rattle.std.proofs.Common.{sym, ap, ◌∙◌, arith, subst, Contains, All, if◌then◌else◌, true≢false}
use Rattle.std.proofs.lemmas.List.{get_or-map, length-map}
use Rattle.std.specs.Ordering.{is_lt}
use Rattle.std.specs.List.Sorted.{IsSortedBy, IsPermutation}
use Rattle.std.proofs.lemmas.List.Elements.{All-contains, Contains-get_or}
use Rattle.std.proofs.lemmas.List.Sorted.{Contains-permutation, IsPermutation-sym}
use Rattle.der_core.specs.Lists.{is_less, is_same}
use Rattle.der_core.proofs.Encoded.{same}
use Rattle.der_core.proofs.SameOctets.{is_then_same}
use Rattle.check_evidence.specs.Roots.{IsAscending}
use Rattle.evidence_trees.specs.Distinct.{once, once_after}
use Rattle.evidence_trees.specs.HashTrees.{IsRising, AreLeavesOf}
use Rattle.evidence_trees.proofs.Orders.{octets_cmp, less_is, less_unless_same}
use Rattle.evidence_trees.proofs.Rising.{there}

abbrev Values : Type 0
Values = List (List ℕ)

-- ---- lists that are made of others

pub map-map : {X Y Z : Type 0} (f : Y → Z) (g : X → Y) (xs : List X) → map f (map g xs) ≡ map (λ x. f (g x)) xs
map-map f g [] = refl
map-map f g (x ∷ xs) = ap (λ ys. f (g x) ∷ ys) (map-map f g xs)

pub All-unmap : {X Y : Type 0} (P : Y → Type 0) (g : X → Y) (xs : List X) → All P (map g xs) → All (λ x. P (g x)) xs
All-unmap P g xs all =
    λ k d lt. subst P (get_or-map g xs k d (g d) lt) (all k (g d) (omega (arith, lt, length-map xs g)))

-- ---- what a sort gives

neighbours_ascend : {X : Type 0} (key : X → List ℕ) (xs : List X)
    → ((k : ℕ) (d : X) → k + 1 < length xs → is_less (key (get_or xs (k + 1) d)) (key (get_or xs k d)) ≡ false)
    → IsAscending (map key xs)
neighbours_ascend key [] h = tt
neighbours_ascend key (x ∷ []) h = tt
neighbours_ascend {X = X} key (x ∷ y ∷ xs) h =
    (h 0 x (omega arith), neighbours_ascend key (y ∷ xs) (λ k d lt. next k d (omega (arith, lt))))
  where
    next : (k : ℕ) (d : X) → k + 1 < length (y ∷ xs)
        → is_less (key (get_or (y ∷ xs) (k + 1) d)) (key (get_or (y ∷ xs) k d)) ≡ false
    next k d lt =
        let same : suc k + 1 ≡ suc (k + 1) = omega arith in
        subst (λ (n : ℕ). is_less (key (get_or (x ∷ y ∷ xs) n d)) (key (get_or (y ∷ xs) k d)) ≡ false) same
        (h (suc k) d (omega (arith, lt)))

pub ascending_from_sort : {X : Type 0} (key : X → List ℕ) (xs : List X)
    → IsSortedBy (λ a b. is_lt (octets_cmp (key a) (key b))) xs → IsAscending (map key xs)
ascending_from_sort key xs up = neighbours_ascend key xs (λ k d lt.
    sym (less_is (key (get_or xs (k + 1) d)) (key (get_or xs k d))) ∙ up k d (omega arith) lt)

-- ---- each once

once_rises : (v : List ℕ) (values : Values) → IsAscending (v ∷ values) → IsRising (v ∷ once_after v values)
once_rises v [] up = tt
once_rises v (w ∷ values) up = go (is_same w v) refl (once_rises v values) (once_rises w values up.1)
  where
    go : (b : Bool) → is_same w v ≡ b → (IsAscending (v ∷ values) → IsRising (v ∷ once_after v values))
        → IsRising (w ∷ once_after w values)
        → IsRising (v ∷ (if b then once_after v values else w ∷ once_after w values))
    go true is rest others = rest (subst (λ (x : List ℕ). IsAscending (x ∷ values)) (same w v is) up.1)
    go false is rest others =
        (less_unless_same v w up.0 (λ e. true≢false (sym (is_then_same w v (sym e)) ∙ is)), others)

once_has : (v : List ℕ) (values : Values) (u : List ℕ) → Contains values u → Contains (v ∷ once_after v values) u
once_has v [] u (k, lt, is) = absurd (omega (arith, lt))
once_has v (w ∷ values) u c = go (is_same w v) refl c (once_has v values u) (once_has w values u)
  where
    go : (b : Bool) → is_same w v ≡ b → Contains (w ∷ values) u
        → (Contains values u → Contains (v ∷ once_after v values) u)
        → (Contains values u → Contains (w ∷ once_after w values) u)
        → Contains (v ∷ (if b then once_after v values else w ∷ once_after w values)) u
    go true e (zero, lt, is) rest others = (0, omega arith, sym (same w v e) ∙ is)
    go true e (suc k, lt, is) rest others = rest (k, omega (arith, lt), is)
    go false e (zero, lt, is) rest others = there v u (w ∷ once_after w values) (0, omega arith, is)
    go false e (suc k, lt, is) rest others =
        there v u (w ∷ once_after w values) (others (k, omega (arith, lt), is))

once_has_only : (v : List ℕ) (values : Values) (u : List ℕ) → Contains (once_after v values) u → Contains values u
once_has_only v [] u c = c
once_has_only v (w ∷ values) u c = go (is_same w v) c (once_has_only v values u) (once_has_only w values u)
  where
    go : (b : Bool) → Contains (if b then once_after v values else w ∷ once_after w values) u
        → (Contains (once_after v values) u → Contains values u)
        → (Contains (once_after w values) u → Contains values u) → Contains (w ∷ values) u
    go true c rest others = there w u values (rest c)
    go false (zero, lt, is) rest others = (0, omega arith, is)
    go false (suc k, lt, is) rest others = there w u values (others (k, omega (arith, lt), is))

-- the members, of all of which each is there
each_in : (values others : Values) → ((v : List ℕ) → Contains values v → Contains others v)
    → All (Contains others) values
each_in values others h = λ k d lt. h (get_or values k d) (Contains-get_or values k d lt)

pub once_are_leaves : (values : Values) → IsAscending values → AreLeavesOf values (once values)
once_are_leaves [] up = record {
  all = each_in [] [] (λ v c. c);
  only = each_in [] [] (λ v c. c);
  rising = tt;
}
once_are_leaves (v ∷ values) up = record {
  all = each_in (v ∷ values) (v ∷ once_after v values) has;
  only = each_in (v ∷ once_after v values) (v ∷ values) only;
  rising = once_rises v values up;
}
  where
    has : (u : List ℕ) → Contains (v ∷ values) u → Contains (v ∷ once_after v values) u
    has u (zero, lt, is) = (0, omega arith, is)
    has u (suc k, lt, is) = once_has v values u (k, omega (arith, lt), is)

    only : (u : List ℕ) → Contains (v ∷ once_after v values) u → Contains (v ∷ values) u
    only u (zero, lt, is) = (0, omega arith, is)
    only u (suc k, lt, is) = there v u values (once_has_only v values u (k, omega (arith, lt), is))

-- the same of values in another order
pub leaves_permuted : (values others leaves : Values) → IsPermutation values others → AreLeavesOf others leaves
    → AreLeavesOf values leaves
leaves_permuted values others leaves p h = record {
  all = each_in values leaves
      (λ v c. All-contains (Contains leaves) others v h.all (Contains-permutation values others v p c));
  only = each_in leaves values (λ v c. Contains-permutation others values v (IsPermutation-sym values others p)
      (All-contains (Contains others) leaves v h.only c));
  rising = h.rising;
}
