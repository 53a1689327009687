use Rattle.std.proofs.Common.{◌≡◌, ℕ, ◌-◌, ◌%◌, take, ap, ◌∙◌, arith}
use Rattle.sha2_blocks.proofs.Pieces.{completed, none_begun}
use Rattle.sha2_blocks.proofs.Words.{long}
use Rattle.sha2_blocks.proofs.long_hashers.LongHasher.complete.Goals as goal

pub returns-then-used-eq0-clause-held : goal.returns-then-used-eq0-clause-held
returns-then-used-eq0-clause-held c =
    λ i h m at held. none_begun long i h _ _ m c.args.piece.now _ (omega arith) (omega arith) held

pub returns-clause-held : goal.returns-clause-held
returns-clause-held c = λ i h m at held.
    let used = c.args.used in
    let d = c.args.piece.now in
    let start : 128 - used ≡ (128 - used) % 128 = omega arith in
    completed long i h c.args.self.now.rest _ m d _ used _ _ at (omega arith) (omega arith) (omega arith) (omega arith)
    (omega arith) (omega arith)
    (c.copy_from_slice.ensures.after ∙ ap (λ (k : ℕ). take k d) start) held
