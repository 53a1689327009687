-- `into_parts` moves a field, and what the seal owns goes with it.
use Rattle.evidence_trees.specs.contracts.tree.Tree.{the_row}
use Rattle.evidence_trees.proofs.tree.Tree.TheLaws.{the_row_laws}
use Rattle.cmsproof_c.proofs.Seals.{into_met}
use Rattle.cmsproof_c.proofs.TreeAsSeal.{seal}
use Rattle.cmsproof_c.specs.contracts.tree_seal.TreeSeal.into_parts.Key.{name as #self}
use Rattle.cmsproof_c.proofs.tree_seal.TreeSeal.into_parts.Statement as stated
use Rattle.cmsproof_c.proofs.tree_seal.TreeSeal.into_parts.Code as code

pub into_parts_spec : {M : Type 1} → stated.statement M
into_parts_spec 𝓤 𝓛 𝓜 𝓡 wired =
    into_met the_row the_row_laws seal 𝓛 𝓜 𝓡 #self (code.unfolded 𝓤 𝓛.H 𝓜 𝓡 wired)
