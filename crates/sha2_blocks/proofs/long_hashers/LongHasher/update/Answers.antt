use Rattle.std.proofs.Common.{refl, arith}
use Rattle.sha2_blocks.specs.LongHashers.{HoldsLong}
use Rattle.sha2_blocks.proofs.Pieces.{longer, shorter}
use Rattle.sha2_blocks.proofs.Words.{long, kept_same}
use Rattle.sha2_blocks.proofs.long_hashers.LongHasher.update.Goals as goal

pub returns-then-piece-used-clause-kept : goal.returns-then-piece-used-clause-kept
returns-then-piece-used-clause-kept c = kept_same long _

pub returns-then-piece-used-clause-fed : goal.returns-then-piece-used-clause-fed
unfolding HoldsLong
returns-then-piece-used-clause-fed c = λ m held.
    shorter long c.args.self.now.hashes c.args.self.now.total _ c.args.self.now.rest _ m c.args.piece.now _ _ _ held
    (omega arith) refl (omega arith) c.copy_from_slice.ensures.after refl refl

pub returns-else-piece-used-clause-fed : goal.returns-else-piece-used-clause-fed
unfolding HoldsLong
returns-else-piece-used-clause-fed c = λ m held.
    longer long c.args.self.now.hashes _ c.args.self.now.total _ c.args.self.now.rest _ m c.args.piece.now _ held refl
    c.take_piece.ensures.total c.take_piece.ensures.held
