-- Values in ascending order of which none stands twice, and their node.
use Rattle.std.proofs.Common.{◌≡◌, ℕ, ◌<◌, Bool, true, false, List, [], ◌∷◌, length, refl, sym, ◌∙◌}
use Rattle.std.proofs.Common.{arith, true≢false, Contains}
use Rattle.std.specs.List.{concat}
use Rattle.std.proofs.lemmas.List.Sorted.{IsPermutation-refl}
use Rattle.der_core.specs.Lists.{is_less}
use Rattle.digests.specs.Messages.{digest_of}
use Rattle.digests.specs.declared.algorithm.Alg.{Alg}
use Rattle.check_evidence.specs.Roots.{IsAscending, IsNode}
use Rattle.evidence_trees.specs.HashTrees.{IsRising, AreLeavesOf}
use Rattle.evidence_trees.proofs.Orders.{less_trans, never_less}

never_both : (v w : List ℕ) → is_less v w ≡ true → (b : Bool) → is_less w v ≡ b → b ≡ false
never_both v w h false is = refl
never_both v w h true is = absurd (true≢false (sym (less_trans v w v h is) ∙ never_less v))

pub rising_ascends : (values : List (List ℕ)) → IsRising values → IsAscending values
rising_ascends [] up = tt
rising_ascends (v ∷ []) up = tt
rising_ascends (v ∷ w ∷ values) up =
    (never_both v w up.0 (is_less w v) refl, rising_ascends (w ∷ values) up.1)

pub node_of_one : (alg : Alg) (values : List (List ℕ)) (node : List ℕ) → length values ≡ 1
    → ((v : List ℕ) → values ≡ v ∷ [] → node ≡ v) → IsNode alg values node
node_of_one alg [] node one is = absurd (omega (arith, one))
node_of_one alg (v ∷ []) node one is = is v refl
node_of_one alg (v ∷ w ∷ values) node one is = absurd (omega (arith, one))

pub node_of_more : (alg : Alg) (values : List (List ℕ)) (node : List ℕ) → 1 < length values → IsRising values
    → node ≡ digest_of alg (concat values) → IsNode alg values node
node_of_more alg [] node more up is = absurd (omega (arith, more))
node_of_more alg (v ∷ []) node more up is = absurd (omega (arith, more))
node_of_more alg (v ∷ w ∷ values) node more up is = record {
  ordered = v ∷ w ∷ values;
  in_order = record { are = IsPermutation-refl (v ∷ w ∷ values); ascending = rising_ascends (v ∷ w ∷ values) up };
  hashed = is;
}

-- the different ones of some values are some
pub some_leaves : (values leaves : List (List ℕ)) → 0 < length values → AreLeavesOf values leaves → 0 < length leaves
some_leaves [] leaves some are = absurd (omega (arith, some))
some_leaves (v ∷ values) [] some are =
    let c : Contains [] v = are.all 0 v (omega arith) in absurd (omega (arith, c.1))
some_leaves (v ∷ values) (w ∷ leaves) some are = omega arith
