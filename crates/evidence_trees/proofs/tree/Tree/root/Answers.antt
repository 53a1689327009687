use Rattle.std.proofs.Common.{arith}
use Rattle.evidence_trees.proofs.Trees.{some_nodes}
use Rattle.evidence_trees.proofs.tree.Tree.root.Goals as goal

pub overflow_sub-len : goal.overflow_sub-len
overflow_sub-len c =
    let i = c.self.inside in
    let some = some_nodes i.alg i.nodes i.leaves i.height c.self.invariant in
    omega (arith, some, c.len.ensures)

pub get-requires : goal.get-requires
get-requires c =
    let i = c.self.inside in
    let some = some_nodes i.alg i.nodes i.leaves i.height c.self.invariant in
    omega (arith, some, c.len.ensures)
