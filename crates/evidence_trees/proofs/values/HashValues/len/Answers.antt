use Rattle.std.proofs.Common.{sym, ap, ◌∙◌, length}
use Rattle.evidence_trees.specs.Pieces.{Sized}
use Rattle.evidence_trees.proofs.Pieces.{length-pieces}
use Rattle.evidence_trees.proofs.values.HashValues.len.Goals as goal

pub returns : goal.returns
returns c = sym (length-pieces c.self.inside.count c.self.inside.size c.self.inside.octets.items)
    ∙ ap (λ (s : Sized). length s.values) c.self.view_is
