use Rattle.std.proofs.Common.{List, ℕ, ap, ◌∙◌, arith}
use Rattle.digests.specs.Messages.{digest_of}
use Rattle.evidence_trees.proofs.Groups.{node_of_more}
use Rattle.evidence_trees.proofs.group.node_of.Goals as goal

pub returns-then-len-gt1-clause-node : goal.returns-then-len-gt1-clause-node
returns-then-len-gt1-clause-node c =
    let values = c.args.values.now.values in
    node_of_more c.args.alg values _ (omega (arith, c.len.ensures, c.if-len-gt1.true)) c.requires.rising
    (c.digest.ensures.octets ∙ ap (λ (o : List ℕ). digest_of c.args.alg o) c.bytes.ensures)
