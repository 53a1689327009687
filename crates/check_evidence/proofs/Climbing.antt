-- From node to node, list by list, to the root.
use Rattle.std.proofs.Common.{◌≡◌, ℕ, List, ◌∷◌, Some, sym, subst}
use Rattle.digests.specs.declared.algorithm.Alg.{Alg}
use Rattle.check_evidence.specs.Roots.{IsNode, IsRoot, IsRootAfter}

abbrev Values : Type 0
Values = List (List ℕ)

-- what leads from the first node to a root makes it the root of the lists
pub from_first : (alg : Alg) (lists : List Values) (first : Values) (rest : List Values) (node : List ℕ)
    → lists ≡ first ∷ rest → IsNode alg first node → (root : List ℕ) → IsRootAfter alg node rest root
    → (covered : Values) → IsRoot alg (Some lists) covered root
from_first alg lists first rest node e is root h covered =
    subst (λ (ls : List Values). IsRoot alg (Some ls) covered root) (sym e) (node, is, h)

pub from_next : (alg : Alg) (left : List Values) (values : Values) (others : List Values) (node next root : List ℕ)
    → left ≡ values ∷ others → IsNode alg (node ∷ values) next → IsRootAfter alg next others root
    → IsRootAfter alg node left root
from_next alg left values others node next root e is h =
    subst (λ (ls : List Values). IsRootAfter alg node ls root) (sym e) (next, is, h)
