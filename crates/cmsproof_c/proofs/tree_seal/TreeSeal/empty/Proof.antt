-- `empty` makes a seal that owns nothing.
use Rattle.evidence_trees.specs.contracts.tree.Tree.{the_row}
use Rattle.evidence_trees.proofs.tree.Tree.TheLaws.{the_row_laws}
use Rattle.cmsproof_c.proofs.Seals.{empty_met}
use Rattle.cmsproof_c.proofs.TreeAsSeal.{seal}
use Rattle.cmsproof_c.specs.contracts.tree_seal.TreeSeal.empty.Key.{name as #self}
use Rattle.cmsproof_c.proofs.tree_seal.TreeSeal.empty.Statement as stated
use Rattle.cmsproof_c.proofs.tree_seal.TreeSeal.empty.Code as code

pub empty_spec : {M : Type 1} → stated.statement M
empty_spec 𝓤 𝓛 𝓜 𝓡 wired =
    empty_met the_row the_row_laws seal 𝓛 𝓜 𝓡 #self (code.unfolded 𝓤 𝓛.H 𝓜 𝓡 wired)
