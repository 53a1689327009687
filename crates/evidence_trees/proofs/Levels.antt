-- The levels of a tree.
use Rattle.std.proofs.Common.{◌≡◌, ℕ, ◌+◌, ◌-◌, ◌/◌, ◌%◌, ◌==◌, ◌<◌, zero, suc, Bool, true, false, List, [], ◌∷◌, ◌++◌}
use Rattle.std.proofs.Common.{length}
use Rattle.std.proofs.Common.{get_or, take, refl, sym, ap, ◌∙◌, arith, append_assoc, append-nil, length-append}
use Rattle.std.proofs.Common.{if◌then◌else◌}
use Rattle.std.proofs.Common.{Option, Some, None, subst, All, IsPermutation}
use Rattle.std.specs.List.{slice_get, concat, AllByRecursion}
use Rattle.std.proofs.lemmas.List.{take_all, take_at, length_push, get_or_push}
use Rattle.std.proofs.lemmas.List.Sorted.{IsPermutation-refl, IsPermutation-middle}
use Rattle.std.proofs.lemmas.List.Elements.{All-from_recursion, recursion_from_All, All-append}
use Rattle.der_core.specs.Lists.{is_less}
use Rattle.digests.specs.Messages.{digest_of}
use Rattle.digests.specs.Algorithms.{length_of}
use Rattle.digests.specs.declared.algorithm.Alg.{Alg}
use Rattle.digests.proofs.Lengths.{digest_length}
use Rattle.check_evidence.specs.Roots.{IsGroupOf}
use Rattle.evidence_trees.specs.HashTrees.{node_of, level_above, level_at, beside}
use Rattle.evidence_trees.specs.Climbing.{levels}
use Rattle.evidence_trees.proofs.Orders.{less_is_not}

abbrev Values : Type 0
Values = List (List ℕ)

-- ---- nodes

swapped : (v w : List ℕ) → IsPermutation (v ∷ w ∷ []) (w ∷ v ∷ [])
swapped v w = IsPermutation-middle (v ∷ []) w []

-- two values, one after the other
both : (v w : List ℕ) → v ++ w ≡ concat (v ∷ w ∷ [])
both v w = ap (λ (x : List ℕ). v ++ x) (sym (append-nil w))

pub node_is_group : (alg : Alg) (v w : List ℕ) → IsGroupOf alg (v ∷ w ∷ []) (node_of alg v w)
node_is_group alg v w = go (is_less w v) refl
  where
    go : (b : Bool) → is_less w v ≡ b → IsGroupOf alg (v ∷ w ∷ []) (digest_of alg (if b then w ++ v else v ++ w))
    go true less = record {
      ordered = w ∷ v ∷ [];
      in_order = record { are = swapped v w; ascending = (less_is_not w v less, tt) };
      hashed = ap (digest_of alg) (both w v);
    }
    go false less = record {
      ordered = v ∷ w ∷ [];
      in_order = record { are = IsPermutation-refl (v ∷ w ∷ []); ascending = (less, tt) };
      hashed = ap (digest_of alg) (both v w);
    }

pub node_is_group_turned : (alg : Alg) (v w : List ℕ) → IsGroupOf alg (w ∷ v ∷ []) (node_of alg v w)
node_is_group_turned alg v w = go (is_less w v) refl
  where
    go : (b : Bool) → is_less w v ≡ b → IsGroupOf alg (w ∷ v ∷ []) (digest_of alg (if b then w ++ v else v ++ w))
    go true less = record {
      ordered = w ∷ v ∷ [];
      in_order = record { are = IsPermutation-refl (w ∷ v ∷ []); ascending = (less_is_not w v less, tt) };
      hashed = ap (digest_of alg) (both w v);
    }
    go false less = record {
      ordered = v ∷ w ∷ [];
      in_order = record { are = swapped w v; ascending = (less, tt) };
      hashed = ap (digest_of alg) (both v w);
    }

-- ---- a level and the one above it

pub length-above : (alg : Alg) (values : Values) → length (level_above alg values) ≡ length values - length values / 2
length-above alg [] = refl
length-above alg (v ∷ []) = refl
length-above alg (v ∷ w ∷ values) = omega (arith, length-above alg values)

-- what the node above is, by the neighbour that a node has or hasn't
abbrev pub IsAbove : Alg → (neighbour : Option (List ℕ)) → (value above : List ℕ) → Type 0
IsAbove alg None value above = above ≡ value
IsAbove alg (Some w) value above = IsGroupOf alg (value ∷ w ∷ []) above

pub is_above : (alg : Alg) (values : Values) (place : ℕ) → place < length values
    → IsAbove alg (slice_get values (beside place)) (get_or values place [])
    (get_or (level_above alg values) (place / 2) [])
is_above alg [] place lt = absurd (omega (arith, lt))
is_above alg (v ∷ []) zero lt = refl
is_above alg (v ∷ []) (suc place) lt = absurd (omega (arith, lt))
is_above alg (v ∷ w ∷ values) zero lt = node_is_group alg v w
is_above alg (v ∷ w ∷ values) (suc zero) lt = node_is_group_turned alg v w
is_above alg (v ∷ w ∷ values) (suc (suc place)) lt =
    let next = is_above alg values place (omega (arith, lt)) in
    let at : beside (suc (suc place)) ≡ suc (suc (beside place)) = beside_next place in
    let up : suc (suc place) / 2 ≡ suc (place / 2) = omega arith in
    subst (λ (n : ℕ). IsAbove alg (slice_get (v ∷ w ∷ values) n) (get_or values place [])
    (get_or (level_above alg (v ∷ w ∷ values)) (suc (suc place) / 2) [])) (sym at)
    (subst (λ (n : ℕ). IsAbove alg (slice_get values (beside place)) (get_or values place [])
    (get_or (level_above alg (v ∷ w ∷ values)) n [])) (sym up) next)
  where
    step : (b : Bool) (n : ℕ) → (n % 2 == 0) ≡ b
        → (if b then suc (suc n) + 1 else suc (suc n) - 1) ≡ suc (suc (if b then n + 1 else n - 1))
    step true n h = omega arith
    step false zero h = absurd cc
    step false (suc n) h = omega arith

    beside_next : (n : ℕ) → beside (suc (suc n)) ≡ suc (suc (beside n))
    beside_next n =
        let same : suc (suc n) % 2 ≡ n % 2 = omega arith in
        ap (λ (r : ℕ). if r == 0 then suc (suc n) + 1 else suc (suc n) - 1) same ∙ step (n % 2 == 0) n refl

-- ---- all levels

-- the last level is one more above the one before it
pub level_more : (alg : Alg) (height : ℕ) (leaves : Values)
    → level_at alg (suc height) leaves ≡ level_above alg (level_at alg height leaves)
level_more alg zero leaves = refl
level_more alg (suc height) leaves = level_more alg height (level_above alg leaves)

pub levels_more : (alg : Alg) (height : ℕ) (leaves : Values)
    → levels alg (suc height) leaves ≡ levels alg height leaves ++ level_at alg (suc height) leaves
levels_more alg zero leaves = refl
levels_more alg (suc height) leaves =
    let above = level_above alg leaves in
    ap (λ (vs : Values). leaves ++ vs) (levels_more alg height above)
    ∙ sym (append_assoc leaves (levels alg height above) (level_at alg (suc height) above))

-- the last level stands at the end
pub levels_end : (alg : Alg) (height : ℕ) (leaves : Values)
    → (front : Values) × (levels alg height leaves ≡ front ++ level_at alg height leaves)
levels_end alg zero leaves = ([], refl)
levels_end alg (suc height) leaves =
    let above = level_above alg leaves in
    let rest = levels_end alg height above in (
      leaves ++ rest.0,
      ap (λ (vs : Values). leaves ++ vs) rest.1 ∙ sym (append_assoc leaves rest.0 (level_at alg height above)),
    )

-- two levels with one node have the same
pub one_top : (alg : Alg) (h k : ℕ) (leaves : Values) (a b : List ℕ) → level_at alg h leaves ≡ a ∷ []
    → level_at alg k leaves ≡ b ∷ [] → a ≡ b
one_top alg zero zero leaves a b p q = let is : a ∷ [] ≡ b ∷ [] = sym p ∙ q in cc
one_top alg zero (suc k) leaves a b p q = one_top alg zero k (level_above alg leaves) a b (ap (level_above alg) p) q
one_top alg (suc h) zero leaves a b p q = one_top alg h zero (level_above alg leaves) a b p (ap (level_above alg) q)
one_top alg (suc h) (suc k) leaves a b p q = one_top alg h k (level_above alg leaves) a b p q

-- the leaves stand at the front
pub levels_front : (alg : Alg) (height : ℕ) (leaves : Values) → take (length leaves) (levels alg height leaves) ≡ leaves
levels_front alg zero leaves = take_all (length leaves) leaves (omega arith)
levels_front alg (suc height) leaves = take_at leaves (levels alg height (level_above alg leaves)) (length leaves) refl

-- the root is the last node
pub root_is_last : (alg : Alg) (height : ℕ) (leaves : Values) → length (level_at alg height leaves) ≡ 1
    → level_at alg height leaves
    ≡ get_or (levels alg height leaves) (length (levels alg height leaves) - 1) [] ∷ []
root_is_last alg height leaves one =
    let ends = levels_end alg height leaves in
    go (level_at alg height leaves) (levels alg height leaves) ends.0 one ends.1
  where
    go : (top all front : Values) → length top ≡ 1 → all ≡ front ++ top → top ≡ get_or all (length all - 1) [] ∷ []
    go [] all front one is = absurd (omega (arith, one))
    go (v ∷ w ∷ top) all front one is = absurd (omega (arith, one))
    go (v ∷ []) all front one is =
        let long : length (front ++ v ∷ []) ≡ length front + 1 = length_push front v in
        let place : length front ≡ length all - 1 = omega (arith, long, ap length is) in
        ap (λ (u : List ℕ). u ∷ []) (sym (ap (λ (vs : Values). get_or vs (length all - 1) []) is
        ∙ get_or_push front v [] (length all - 1) place))

pub levels_some : (alg : Alg) (height : ℕ) (leaves : Values) → length (level_at alg height leaves) ≡ 1
    → 0 < length (levels alg height leaves)
levels_some alg height leaves one =
    let ends = levels_end alg height leaves in
    omega (arith, one, ap length ends.1, length-append ends.0 (level_at alg height leaves))

-- each node is as long as a digest
above_long : (alg : Alg) (values : Values) → AllByRecursion (λ v. length v ≡ length_of alg) values
    → AllByRecursion (λ v. length v ≡ length_of alg) (level_above alg values)
above_long alg [] all = tt
above_long alg (v ∷ []) all = all
above_long alg (v ∷ w ∷ values) all =
    (digest_length alg (if is_less w v then w ++ v else v ++ w), above_long alg values all.1.1)

pub level_long : (alg : Alg) (values : Values) → All (λ v. length v ≡ length_of alg) values
    → All (λ v. length v ≡ length_of alg) (level_above alg values)
level_long alg values all =
    let P : List ℕ → Type 0 = λ v. length v ≡ length_of alg in
    All-from_recursion P (level_above alg values) (above_long alg values (recursion_from_All P values all))

pub levels_long : (alg : Alg) (height : ℕ) (leaves : Values) → All (λ v. length v ≡ length_of alg) leaves
    → All (λ v. length v ≡ length_of alg) (levels alg height leaves)
levels_long alg zero leaves all = all
levels_long alg (suc height) leaves all =
    let P : List ℕ → Type 0 = λ v. length v ≡ length_of alg in
    All-append P leaves (levels alg height (level_above alg leaves)) all
    (levels_long alg height (level_above alg leaves) (level_long alg leaves all))
