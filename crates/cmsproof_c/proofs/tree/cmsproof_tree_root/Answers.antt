use Rattle.std.proofs.Common.{Option, subst}
use Rattle.evidence_trees.specs.HashTrees.{HashTree}
use Rattle.cmsproof_c.specs.Trees.{TellsRoot}
use Rattle.library_answers.specs.Failures.{IsMade}
use Rattle.cmsproof_c.proofs.tree.cmsproof_tree_root.Goals as goal

pub returns-clause-root : goal.returns-clause-root
returns-clause-root c =
    subst (λ (held : Option HashTree). TellsRoot held c.tell_root-told.result.said c.tell_root-told.result.status
    c.args.text.now c.tell_root-told.result.size c.tell_root-told.new.room) c.in-Some.ensures.taken
    (subst (λ (tree : HashTree). IsMade tree.root c.tell_root-told.result.said c.tell_root-told.result.status
    c.args.text.now c.tell_root-told.result.size c.tell_root-told.new.room) c.deref.ensures c.tell_root-told.ensures)
