use Rattle.std.proofs.Common.{ℕ, ◌-◌, ◌%◌, length, refl, ◌∙◌, arith}
use Rattle.std.proofs.lemmas.List.{take_rest}
use Rattle.sha2_blocks.proofs.Pieces.{all_taken, kept_twice}
use Rattle.sha2_blocks.proofs.Words.{short}
use Rattle.sha2_blocks.proofs.short_hashers.ShortHasher.take_piece.Goals as goal

pub returns-clause-kept : goal.returns-clause-kept
returns-clause-kept c =
    kept_twice short c.args.self.now.hashes _ _ _ _ _ _ c.take_blocks.ensures c.complete-begun.ensures.hashes

pub returns-clause-held : goal.returns-clause-held
returns-clause-held c = λ m at held.
    let d = c.args.piece.now in
    let start : ℕ = (64 - c.args.used) % 64 in
    let end : ℕ = length d - (length d - start) % 64 in
    all_taken short c.args.self.now.hashes _ _ _ c.args.self.now.rest c.complete-begun.new.self.rest _ m d _ start end _
    (omega arith) (omega arith) (omega arith) (omega arith) (omega arith) (omega arith) c.take_blocks.ensures
    c.complete-begun.ensures.hashes refl (c.copy_from_slice.ensures.after ∙ take_rest d end)
    (λ i h. c.complete-begun.ensures.held i h m at) held
