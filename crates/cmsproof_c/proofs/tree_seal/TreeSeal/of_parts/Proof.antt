-- `of_parts` moves a field, and what the parts own goes with it.
use Rattle.evidence_trees.specs.contracts.tree.Tree.{the_row}
use Rattle.evidence_trees.proofs.tree.Tree.TheLaws.{the_row_laws}
use Rattle.cmsproof_c.proofs.Seals.{of_met}
use Rattle.cmsproof_c.proofs.TreeAsSeal.{seal}
use Rattle.cmsproof_c.specs.contracts.tree_seal.TreeSeal.of_parts.Key.{name as #self}
use Rattle.cmsproof_c.proofs.tree_seal.TreeSeal.of_parts.Statement as stated
use Rattle.cmsproof_c.proofs.tree_seal.TreeSeal.of_parts.Code as code

pub of_parts_spec : {M : Type 1} → stated.statement M
of_parts_spec 𝓤 𝓛 𝓜 𝓡 wired =
    of_met the_row the_row_laws seal 𝓛 𝓜 𝓡 #self (code.unfolded 𝓤 𝓛.H 𝓜 𝓡 wired)
