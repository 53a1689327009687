-- The way from a leaf to the root: lists of its values lead there, and a leaf has only one.
use Rattle.std.proofs.Common.{◌≡◌, ℕ, ◌+◌, ◌-◌, ◌/◌, ◌<◌, ◌≤◌, zero, suc, List, [], ◌∷◌, ◌++◌, length, map, get_or}
use Rattle.std.proofs.Common.{refl, sym, ap, ◌∙◌, arith, Option, Some, None, subst, All, Contains, ◌⊎◌, inl, inr}
use Rattle.std.specs.List.{slice_get}
use Rattle.std.specs.Option.{option_to_list}
use Rattle.std.proofs.lemmas.Bool.{cases_lt}
use Rattle.std.proofs.lemmas.List.{get_or_default}
use Rattle.std.proofs.lemmas.List.Elements.{All-cons, All-map, All-contains_itself}
use Rattle.std.proofs.lemmas.Option.{slice_get_within, get_or_from_slice_get, slice_get-get_or}
use Rattle.digests.specs.Algorithms.{length_of}
use Rattle.digests.specs.declared.algorithm.Alg.{Alg}
use Rattle.check_evidence.specs.Roots.{IsRootAfter}
use Rattle.evidence_trees.specs.HashTrees.{IsRising, level_above, level_at, beside, way_up, HashTree, IsWayFrom}
use Rattle.evidence_trees.specs.HashTrees.{IsTreeRoot, AreListsOf}
use Rattle.evidence_trees.specs.Laws.{LeavesHaveOneWay, WaysShowLeaves}
use Rattle.evidence_trees.proofs.Levels.{IsAbove, is_above, length-above, level_long}
use Rattle.evidence_trees.proofs.Orders.{never_less}
use Rattle.evidence_trees.proofs.Rising.{is_before}

abbrev Values : Type 0
Values = List (List ℕ)

abbrev alone : List ℕ → Values
alone v = v ∷ []

-- ---- where it leads

pub way_leads : (alg : Alg) (height : ℕ) (level : Values) (place : ℕ) (root : List ℕ) → place < length level
    → level_at alg height level ≡ root ∷ []
    → IsRootAfter alg (get_or level place []) (map alone (way_up alg height place level)) root
way_leads alg zero level place root lt top = only level place lt top
  where
    only : (vs : Values) (k : ℕ) → k < length vs → vs ≡ root ∷ [] → root ≡ get_or vs k []
    only vs zero lt is = sym (ap (λ (ws : Values). get_or ws 0 []) is)
    only vs (suc k) lt is = absurd (omega (arith, lt, ap length is))
way_leads alg (suc height) level place root lt top =
    let above = level_above alg level in
    let long : length above ≡ length level - length level / 2 = length-above alg level in
    let up : place / 2 < length above = omega (arith, lt, long) in
    go (slice_get level (beside place)) (get_or above (place / 2) []) (way_up alg height (place / 2) above)
    (is_above alg level place lt) (way_leads alg height above (place / 2) root up top)
  where
    go : (o : Option (List ℕ)) (next : List ℕ) (vs : Values) → IsAbove alg o (get_or level place []) next
        → IsRootAfter alg next (map alone vs) root
        → IsRootAfter alg (get_or level place []) (map alone (option_to_list o ++ vs)) root
    go None next vs is rest = subst (λ (n : List ℕ). IsRootAfter alg n (map alone vs) root) is rest
    go (Some w) next vs is rest = (next, is, rest)

-- each value is as long as a digest
way_long : (alg : Alg) (height : ℕ) (level : Values) (place : ℕ) → All (λ v. length v ≡ length_of alg) level
    → All (λ v. length v ≡ length_of alg) (way_up alg height place level)
way_long alg zero level place all = λ k d lt. absurd (omega (arith, lt))
way_long alg (suc height) level place all = go (slice_get level (beside place)) refl
    (way_long alg height (level_above alg level) (place / 2) (level_long alg level all))
  where
    go : (o : Option (List ℕ)) → slice_get level (beside place) ≡ o
        → All (λ v. length v ≡ length_of alg) (way_up alg height (place / 2) (level_above alg level))
        → All (λ v. length v ≡ length_of alg)
        (option_to_list o ++ way_up alg height (place / 2) (level_above alg level))
    go None is rest = rest
    go (Some w) is rest =
        let Long : List ℕ → Type 0 = λ v. length v ≡ length_of alg in
        let lt = slice_get_within level (beside place) w is in
        let here : Long w = subst Long (get_or_from_slice_get level (beside place) w w is) (all (beside place) w lt) in
        All-cons Long w (way_up alg height (place / 2) (level_above alg level)) here rest

pub ways_show : WaysShowLeaves
ways_show tree leaf way long h =
    let alg = tree.algorithm in
    let Long : List ℕ → Type 0 = λ v. length v ≡ length_of alg in
    let beyond = way_up alg h.root.height h.place tree.leaves in
    let lt = slice_get_within tree.leaves h.place leaf h.at_place in
    let here : get_or tree.leaves h.place [] ≡ leaf = get_or_from_slice_get tree.leaves h.place leaf [] h.at_place in
    let root : IsRootAfter alg leaf (map alone beyond) tree.root =
    subst (λ (v : List ℕ). IsRootAfter alg v (map alone beyond) tree.root) here
    (way_leads alg h.root.height tree.leaves h.place tree.root lt h.root.only) in
    let itself : Long leaf = subst Long here (long h.place [] lt) in
    let all : All Long (leaf ∷ beyond) =
    All-cons Long leaf beyond itself (way_long alg h.root.height tree.leaves h.place long) in
    let each : (v : List ℕ) → Long v
    → All Long (v ∷ []) = λ v is. All-cons Long v [] is (λ k d lt. absurd (omega (arith, lt))) in
    subst (λ (vs : Values). AreListsOf tree leaf vs) (sym h.are) (record {
      root = (leaf, refl, root);
      covered = All-contains_itself (leaf ∷ []);
      no_others = All-contains_itself (leaf ∷ []);
      lengths = All-map (All Long) alone (leaf ∷ beyond) (λ k d lt. each (get_or (leaf ∷ beyond) k d) (all k d lt));
    })

-- ---- that there is one

-- nothing is above the root
nothing_above : (alg : Alg) (height place : ℕ) (level : Values) (root : List ℕ) → place < length level
    → level ≡ root ∷ [] → way_up alg height place level ≡ []
nothing_above alg zero place level root lt is = refl
nothing_above alg (suc height) place [] root lt is = absurd (omega (arith, lt))
nothing_above alg (suc height) zero (v ∷ []) root lt is = nothing_above alg height 0 (v ∷ []) root lt is
nothing_above alg (suc height) (suc place) (v ∷ []) root lt is = absurd (omega (arith, lt))
nothing_above alg (suc height) place (v ∷ w ∷ level) root lt is = absurd (omega (arith, ap length is))

-- the way is the same, however many levels were counted
one_height : (alg : Alg) (h k place : ℕ) (level : Values) (a b : List ℕ) → place < length level
    → level_at alg h level ≡ a ∷ [] → level_at alg k level ≡ b ∷ []
    → way_up alg h place level ≡ way_up alg k place level
one_height alg zero k place level a b lt p q = sym (nothing_above alg k place level a lt p)
one_height alg (suc h) zero place level a b lt p q = nothing_above alg (suc h) place level b lt q
one_height alg (suc h) (suc k) place level a b lt p q =
    let above = level_above alg level in
    let long : length above ≡ length level - length level / 2 = length-above alg level in
    let up : place / 2 < length above = omega (arith, lt, long) in
    ap (λ (vs : Values). option_to_list (slice_get level (beside place)) ++ vs)
    (one_height alg h k (place / 2) above a b up p q)

-- a value stands at one place of leaves
one_place : (leaves : Values) (leaf : List ℕ) (j k : ℕ) → IsRising leaves → slice_get leaves j ≡ Some leaf
    → slice_get leaves k ≡ Some leaf → j ≡ k
one_place leaves leaf j k up at at' =
    let lt = slice_get_within leaves j leaf at in
    let lt' = slice_get_within leaves k leaf at' in
    let is : get_or leaves j [] ≡ leaf = get_or_from_slice_get leaves j leaf [] at in
    let is' : get_or leaves k [] ≡ leaf = get_or_from_slice_get leaves k leaf [] at' in
    go lt lt' is is' (cases_lt j k) (cases_lt k j)
  where
    not_before : (m n : ℕ) → n < length leaves → get_or leaves m [] ≡ leaf → get_or leaves n [] ≡ leaf → m < n → ⊥
    not_before m n lt is is' before =
        let less = is_before leaves m n [] up before lt in
        let same : get_or leaves m [] ≡ get_or leaves n [] = is ∙ sym is' in
        let never = never_less (get_or leaves n []) in
        absurd cc

    go : j < length leaves → k < length leaves → get_or leaves j [] ≡ leaf → get_or leaves k [] ≡ leaf
        → (j < k) ⊎ (k ≤ j) → (k < j) ⊎ (j ≤ k) → j ≡ k
    go lt lt' is is' (inl before) c = absurd (not_before j k lt' is is' before)
    go lt lt' is is' (inr after) (inl before) = absurd (not_before k j lt is' is before)
    go lt lt' is is' (inr after) (inr upto) = omega (arith, after, upto)

pub one_way : (tree : HashTree) (leaf : List ℕ) (way other : Values) → IsRising tree.leaves → IsWayFrom tree leaf way
    → IsWayFrom tree leaf other → other ≡ way
one_way tree leaf way other up h k =
    let alg = tree.algorithm in
    let lt = slice_get_within tree.leaves k.place leaf k.at_place in
    let place : k.place ≡ h.place = one_place tree.leaves leaf k.place h.place up k.at_place h.at_place in
    let same = one_height alg k.root.height h.root.height k.place tree.leaves tree.root tree.root lt k.root.only
    h.root.only in
    k.are ∙ (ap (λ (vs : Values). leaf ∷ vs) (same
    ∙ ap (λ (n : ℕ). way_up alg h.root.height n tree.leaves) place) ∙ sym h.are)

pub leaves_have_one : LeavesHaveOneWay
leaves_have_one alg values tree leaf is c =
    let root : IsTreeRoot tree.algorithm tree.leaves tree.root =
    subst (λ (a : Alg). IsTreeRoot a tree.leaves tree.root) (sym is.algorithm) is.root in
    let at : slice_get tree.leaves c.0 ≡ Some leaf = slice_get-get_or tree.leaves c.0 leaf c.1
    ∙ ap (λ (v : List ℕ). Some v) c.2 in
    let values = leaf ∷ way_up tree.algorithm root.height c.0 tree.leaves in
    let way : IsWayFrom tree leaf values = record { root = root; place = c.0; at_place = at; are = refl } in
    (values, way, λ other h. one_way tree leaf values other is.leaves.rising way h)
