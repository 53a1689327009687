-- Trees of levels, and the lists of their leaves.
use Rattle.std.proofs.Common.{◌≡◌, ℕ, ◌-◌, ◌<◌, List, [], ◌∷◌, length, take, get_or, refl, sym, ap, ◌∙◌, arith}
use Rattle.std.proofs.Common.{subst, All, Some, length-take}
use Rattle.std.proofs.lemmas.List.{get_or-take, length-take-le}
use Rattle.std.proofs.lemmas.List.Elements.{All-take}
use Rattle.std.proofs.lemmas.Option.{slice_get-get_or}
use Rattle.digests.specs.Algorithms.{length_of}
use Rattle.digests.specs.declared.algorithm.Alg.{Alg}
use Rattle.evidence_trees.specs.Pieces.{Sized}
use Rattle.evidence_trees.specs.HashTrees.{IsRising, AreLeavesOf, level_at, way_up, HashTree, IsTreeOf, IsWayFrom}
use Rattle.evidence_trees.specs.HashTrees.{AreListsOf}
use Rattle.evidence_trees.specs.Climbing.{levels, AreLevels, neighbours, HasLevels}
use Rattle.evidence_trees.proofs.Levels.{levels_front, root_is_last, levels_some, levels_long}
use Rattle.evidence_trees.proofs.Climbs.{neighbours_are, has_levels}
use Rattle.evidence_trees.proofs.Ways.{ways_show}

abbrev Values : Type 0
Values = List (List ℕ)

-- levels that were made over leaves
pub are_levels : (alg : Alg) (leaves : Values) (nodes : Sized) (count height : ℕ)
    → nodes.values ≡ levels alg height leaves → count ≡ length leaves → IsRising leaves
    → All (λ v. length v ≡ length_of alg) leaves → length (level_at alg height leaves) ≡ 1 → nodes.size ≡ length_of alg
    → AreLevels alg nodes count height
are_levels alg leaves nodes count height is many up long one size =
    let front : leaves ≡ take count nodes.values = sym (ap (λ (n : ℕ). take n nodes.values) many
    ∙ (ap (λ (vs : Values). take (length leaves) vs) is ∙ levels_front alg height leaves)) in
    record {
      size = size;
      lengths =
          subst (λ (vs : Values). All (λ v. length v ≡ length_of alg) vs) (sym is) (levels_long alg height leaves long);
      rising = subst IsRising front up;
      fits = omega (arith, many, ap length front, length-take count nodes.values);
      levels = is ∙ ap (levels alg height) front;
      one = ap (λ (vs : Values). length (level_at alg height vs)) (sym front) ∙ one;
    }

abbrev pub tree_of : Alg → Sized → ℕ → HashTree
tree_of alg nodes count = record {
  algorithm = alg;
  leaves = take count nodes.values;
  root = get_or nodes.values (length nodes.values - 1) [];
}

-- the root of levels
root_of : (alg : Alg) (nodes : Sized) (count height : ℕ) → AreLevels alg nodes count height
    → level_at alg height (take count nodes.values) ≡ get_or nodes.values (length nodes.values - 1) [] ∷ []
root_of alg nodes count height h = root_is_last alg height (take count nodes.values) h.one
    ∙ ap (λ (vs : Values). get_or vs (length vs - 1) [] ∷ []) (sym h.levels)

pub is_tree : (alg : Alg) (values : Values) (nodes : Sized) (count height : ℕ) → AreLevels alg nodes count height
    → AreLeavesOf values (take count nodes.values) → IsTreeOf alg values (tree_of alg nodes count)
is_tree alg values nodes count height h leaves = record {
  algorithm = refl;
  leaves = leaves;
  root = record { height = height; only = root_of alg nodes count height h };
}

pub some_nodes : (alg : Alg) (nodes : Sized) (count height : ℕ) → AreLevels alg nodes count height
    → 0 < length nodes.values
some_nodes alg nodes count height h =
    omega (arith, levels_some alg height (take count nodes.values) h.one, ap length h.levels)

-- the levels above a leaf
pub levels_of_leaf : (alg : Alg) (nodes : Sized) (count height place : ℕ) → AreLevels alg nodes count height
    → place < count → HasLevels height place count (length nodes.values)
levels_of_leaf alg nodes count height place h below =
    let leaves = take count nodes.values in
    let long : length leaves ≡ count = length-take-le count nodes.values h.fits in
    subst (λ (n : ℕ). HasLevels height place n (length nodes.values)) long
    (subst (λ (vs : Values). HasLevels height place (length leaves) (length vs)) (sym h.levels)
    (has_levels alg height leaves place (omega (arith, below, long))))

-- the lists of a leaf: those on its way up
pub is_way : (alg : Alg) (nodes : Sized) (count height place : ℕ) (leaf : List ℕ) → AreLevels alg nodes count height
    → place < count → get_or (take count nodes.values) place [] ≡ leaf
    → IsWayFrom (tree_of alg nodes count) leaf
    (get_or nodes.values place [] ∷ neighbours height place count nodes.values)
is_way alg nodes count height place leaf h below is =
    let leaves = take count nodes.values in
    let long : length leaves ≡ count = length-take-le count nodes.values h.fits in
    let here : get_or nodes.values place [] ≡ leaf = sym (get_or-take count nodes.values place [] below) ∙ is in
    let beyond : neighbours height place count nodes.values ≡ way_up alg height place leaves =
    ap (λ (n : ℕ). neighbours height place n nodes.values) (sym long)
    ∙ (ap (λ (vs : Values). neighbours height place (length leaves) vs) h.levels
    ∙ neighbours_are alg height leaves place) in
    record {
      root = record { height = height; only = root_of alg nodes count height h };
      place = place;
      at_place = slice_get-get_or leaves place [] (omega (arith, below, long)) ∙ ap (λ (v : List ℕ). Some v) is;
      are = ap (λ (v : List ℕ). v ∷ neighbours height place count nodes.values) here
          ∙ ap (λ (vs : Values). leaf ∷ vs) beyond;
    }

pub are_lists : (alg : Alg) (nodes : Sized) (count height place : ℕ) (leaf : List ℕ) → AreLevels alg nodes count height
    → place < count → get_or (take count nodes.values) place [] ≡ leaf
    → AreListsOf (tree_of alg nodes count) leaf
    (get_or nodes.values place [] ∷ neighbours height place count nodes.values)
are_lists alg nodes count height place leaf h below is =
    ways_show (tree_of alg nodes count) leaf (get_or nodes.values place [] ∷ neighbours height place count nodes.values)
    (All-take (λ v. length v ≡ length_of alg) count nodes.values h.lengths)
    (is_way alg nodes count height place leaf h below is)
