-- The tree on footings.
use Rattle.std.proofs.Common.{◌≡◌, ℕ, true, false, List, [], ◌∷◌, map, Option, Some, None, All}
use Rattle.std.proofs.Common.{◌↔◌, Contains, refl, sym, ap, ◌∙◌, subst, inr}
use Rattle.std.specs.Prelude.{IfSome, IsSome}
use Rattle.std.specs.List.{AllByRecursion, slice_get}
use Rattle.std.proofs.lemmas.List.Elements.{All-from_recursion}
use Rattle.digests.specs.Digests.{alg_of, octets_of}
use Rattle.digests.specs.declared.algorithm.Alg.{Alg}
use Rattle.digests.specs.declared.value.Digest.{Digest}
use Rattle.evidence_trees.specs.HashTrees.{AreListsOf, HashTree, IsTreeOf, IsWayFrom}
use Rattle.cli_making.specs.Sums.{IsRootOf}
use Rattle.cli_renewing.specs.declared.footing.Footing.{Footing}
use Rattle.cli_renewing.specs.Footings.{AreBy, IsTreeOn}
use Rattle.cli_renewing.specs.Renewing.{IsNoLeaf, LeadsUp}
use Rattle.cli_renewing.specs.Steps.{AreOfFirst}

-- all are by the algorithm of the first, which is at the front
pub by_first : (footings : List Footing) (first : Footing) (alg : Alg) → Some first ≡ slice_get footings 0
    → alg ≡ alg_of first.leaf → AreOfFirst footings → AreBy alg footings
by_first [] first alg front is of = tt
by_first (f ∷ footings) first alg front is of =
    let same : first ≡ f = cc in
    subst (λ (a : Alg). AreBy a (f ∷ footings)) (sym (is ∙ ap (λ (x : Footing). alg_of x.leaf) same)) of

map-map : {X Y Z : Type 0} (g : Y → Z) (f : X → Y) (xs : List X) → map g (map f xs) ≡ map (λ x. g (f x)) xs
map-map g f [] = refl
map-map {X} {Y} {Z} g f (x ∷ xs) = ap (λ (l : List Z). g (f x) ∷ l) (map-map g f xs)

leaves_all : (alg : Alg) (footings : List Footing) → AreBy alg footings
    → AllByRecursion (λ (d : Digest). alg_of d ≡ alg) (map (λ (f : Footing). f.leaf) footings)
leaves_all alg [] by = tt
leaves_all alg (f ∷ footings) by = (by.0, leaves_all alg footings by.1)

pub leaves_by : (alg : Alg) (footings : List Footing) (leaves : List Digest) → AreBy alg footings
    → leaves ≡ map (λ (f : Footing). f.leaf) footings → All (λ (d : Digest). alg_of d ≡ alg) leaves
leaves_by alg footings leaves by are =
    subst (λ (ds : List Digest). All (λ (d : Digest). alg_of d ≡ alg) ds) (sym are)
    (All-from_recursion (λ (d : Digest). alg_of d ≡ alg) (map (λ (f : Footing). f.leaf) footings)
    (leaves_all alg footings by))

pub tree_is_on : (alg : Alg) (footings : List Footing) (leaves : List Digest) (tree : HashTree) → AreBy alg footings
    → leaves ≡ map (λ (f : Footing). f.leaf) footings → IsTreeOf alg (map octets_of leaves) tree → (root : Digest)
    → IsRootOf tree root → IsTreeOn footings tree root
tree_is_on alg footings leaves tree by are over root is_root =
    let values : map octets_of leaves ≡ map (λ (f : Footing). octets_of f.leaf) footings =
    ap (λ (ds : List Digest). map octets_of ds) are ∙ map-map octets_of (λ (f : Footing). f.leaf) footings in
    record {
      by = subst (λ (a : Alg). AreBy a footings) (sym over.algorithm) by;
      over = subst (λ (a : Alg). IsTreeOf a (map (λ (f : Footing). octets_of f.leaf) footings) tree)
          (sym over.algorithm)
          (subst (λ (vs : List (List ℕ)). IsTreeOf alg vs tree) values over);
      is_root = is_root;
    }

-- what leads from a leaf to the root
pub leads_up : (tree : HashTree) (leaf : Digest) (r : Option (List (List ℕ)))
    → IsSome r ↔ (alg_of leaf ≡ tree.algorithm) × Contains tree.leaves (octets_of leaf)
    → IfSome r (IsWayFrom tree (octets_of leaf)) → IfSome r (AreListsOf tree (octets_of leaf))
    → IfSome r (LeadsUp tree leaf)
leads_up tree leaf None some way lists = tt
leads_up tree leaf (Some values) some way lists =
    record { by = (some.0 refl).0; there = (some.0 refl).1; way = way; lists = lists }

-- where nothing leads from there to the root
pub no_leaf : (tree : HashTree) (leaf : Digest) (m last : ℕ) (r : Option (List (List ℕ)))
    → IsSome r ↔ (alg_of leaf ≡ tree.algorithm) × Contains tree.leaves (octets_of leaf) → r ≡ None
    → IsNoLeaf tree m leaf last
no_leaf tree leaf m last None some is = inr (λ there. let z : false ≡ true = some.1 there in cc)
no_leaf tree leaf m last (Some values) some is = absurd (let z : Some values ≡ None = is in cc)
