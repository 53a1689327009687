-- The neighbours that the code finds from a leaf on: those on its way up.
use Rattle.std.proofs.Common.{◌≡◌, ℕ, ◌+◌, ◌-◌, ◌/◌, ◌<◌, ◌≤◌, zero, suc, List, ◌++◌, length, take, drop}
use Rattle.std.proofs.Common.{refl, sym, ap, ◌∙◌, arith, length-append, subst}
use Rattle.std.specs.List.{slice_get}
use Rattle.std.specs.Option.{option_to_list}
use Rattle.std.proofs.lemmas.List.{take_at, drop_at, drop-drop}
use Rattle.digests.specs.declared.algorithm.Alg.{Alg}
use Rattle.evidence_trees.specs.HashTrees.{level_above, level_at, beside, way_up}
use Rattle.evidence_trees.specs.Climbing.{levels, neighbours, neighbours_from, HasLevels}
use Rattle.evidence_trees.proofs.Levels.{length-above}

abbrev Values : Type 0
Values = List (List ℕ)

-- the neighbours, read off the levels of a tree
neighbours_of : (alg : Alg) (height : ℕ) (leaves : Values) (place : ℕ)
    → neighbours (suc height) place (length leaves) (levels alg (suc height) leaves)
    ≡ option_to_list (slice_get leaves (beside place))
    ++ neighbours height (place / 2) (length (level_above alg leaves)) (levels alg height (level_above alg leaves))
neighbours_of alg height leaves place =
    let above = level_above alg leaves in
    let rest = levels alg height above in
    ap (λ (vs : Values). option_to_list (slice_get vs (beside place))
    ++ neighbours height (place / 2) (length leaves - length leaves / 2) (drop (length leaves) (leaves ++ rest)))
    (take_at leaves rest (length leaves) refl)
    ∙ ap (λ (vs : Values). option_to_list (slice_get leaves (beside place))
    ++ neighbours height (place / 2) (length leaves - length leaves / 2) vs) (drop_at leaves rest (length leaves) refl)
    ∙ ap (λ (n : ℕ). option_to_list (slice_get leaves (beside place)) ++ neighbours height (place / 2) n rest)
    (sym (length-above alg leaves))

-- the values that the code finds are those on the way up
pub neighbours_are : (alg : Alg) (height : ℕ) (leaves : Values) (place : ℕ)
    → neighbours height place (length leaves) (levels alg height leaves) ≡ way_up alg height place leaves
neighbours_are alg zero leaves place = refl
neighbours_are alg (suc height) leaves place = neighbours_of alg height leaves place
    ∙ ap (λ (vs : Values). option_to_list (slice_get leaves (beside place)) ++ vs)
    (neighbours_are alg height (level_above alg leaves) (place / 2))

-- the levels are there
pub has_levels : (alg : Alg) (height : ℕ) (leaves : Values) (place : ℕ) → place < length leaves
    → HasLevels height place (length leaves) (length (levels alg height leaves))
has_levels alg zero leaves place lt = tt
has_levels alg (suc height) leaves place lt =
    let above = level_above alg leaves in
    let rest = levels alg height above in
    let long : length above ≡ length leaves - length leaves / 2 = length-above alg leaves in
    let all : length (leaves ++ rest) ≡ length leaves + length rest = length-append leaves rest in
    let left : length rest ≡ length (leaves ++ rest) - length leaves = omega arith in
    let up : place / 2 < length above = omega (arith, lt, long) in (
      lt,
      omega (arith, all),
      subst (λ (n : ℕ). HasLevels height (place / 2) (length leaves - length leaves / 2) n) left
          (subst (λ (n : ℕ). HasLevels height (place / 2) n (length rest)) long
          (has_levels alg height above (place / 2) up)),
    )

-- ---- one step up

pub neighbours_step : (above place count left : ℕ) (nodes : Values) → 0 < above → left ≤ length nodes
    → HasLevels above place count left → neighbours_from above place count left nodes
    ≡ option_to_list (slice_get (take count (drop (length nodes - left) nodes)) (beside place))
    ++ neighbours_from (above - 1) (place / 2) (count - count / 2) (left - count) nodes
neighbours_step zero place count left nodes some fits h = absurd (omega (arith, some))
neighbours_step (suc above) place count left nodes some fits h =
    let level = drop (length nodes - left) nodes in
    let front = option_to_list (slice_get (take count level) (beside place)) in
    let within : count ≤ left = h.1 in
    let start : length nodes - left + count ≡ length nodes - (left - count) = omega arith in
    let next : above ≡ suc above - 1 = omega arith in
    ap (λ (vs : Values). front ++ neighbours above (place / 2) (count - count / 2) vs)
    (drop-drop count (length nodes - left) nodes ∙ ap (λ (n : ℕ). drop n nodes) start)
    ∙ ap (λ (n : ℕ). front ++ neighbours_from n (place / 2) (count - count / 2) (left - count) nodes) next

pub levels_step : (above place count left : ℕ) → 0 < above → HasLevels above place count left
    → HasLevels (above - 1) (place / 2) (count - count / 2) (left - count)
levels_step zero place count left some h = absurd (omega (arith, some))
levels_step (suc above) place count left some h =
    let next : above ≡ suc above - 1 = omega arith in
    subst (λ (n : ℕ). HasLevels n (place / 2) (count - count / 2) (left - count)) next h.2
