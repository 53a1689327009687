use Rattle.std.proofs.Common.{Bool, length, sym, ap, ◌∙◌}
use Rattle.evidence_making.specs.Frames.{added}
use Rattle.evidence_making.proofs.headers.added_length.Goals as goal

pub returns-then-frame-clause-size : goal.returns-then-frame-clause-size
returns-then-frame-clause-size c = c.algorithm_length.ensures.size 0x30
    ∙ ap (λ (b : Bool). length (added c.args.frame.now.alg b)) (sym c.if-frame.true)
