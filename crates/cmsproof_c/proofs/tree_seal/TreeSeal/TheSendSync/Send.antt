-- A seal owns what a box owns, and that may go to another thread.
use denote.Struct.Struct.{exits_of}
use denote.Struct.Owning.{shape, fields, to}
use denote.Param.Send.{IsSend, AllSend, owning_send, struct_send, sendable}
use Rattle.std_alloc.proofs.SendSync.{quiet}
use Rattle.evidence_trees.specs.contracts.tree.Tree.{the_row}
use Rattle.evidence_trees.proofs.tree.Tree.TheSendSync.{the_send}
use Rattle.cmsproof_c.proofs.Kept.{kept_keyless}
use Rattle.cmsproof_c.specs.contracts.tree_seal.TreeSeal as Sealed

pub send : IsSend Sealed.the_row
send =
    let O = Sealed.the_type in let all : AllSend (fields O) = (search sendable, tt) in
    owning_send O all (λ d. kept_keyless the_row the_send d.at d.kept)
    (λ k. quiet (to O) (exits_of k (fields O)) ((struct_send (shape O) all).leaving k))
