use Rattle.std.proofs.Common.{List, ℕ, subst, sym}
use Rattle.check_evidence.specs.Roots.{InOrder}
use Rattle.check_evidence.proofs.Sorted.{group_sorted_with}
use Rattle.check_evidence.proofs.sorting.sorted_group_with.Goals as goal

pub returns-clause-group : goal.returns-clause-group
returns-clause-group c = group_sorted_with c.args.alg c.args.node.now c.args.values.now c.deref.result.now _
    (subst (λ (vs : List (List ℕ)). InOrder c.args.values.now vs) (sym c.deref.ensures.value) c.in_ok-sort.ensures)
    c.hashed_with.ensures.octets
