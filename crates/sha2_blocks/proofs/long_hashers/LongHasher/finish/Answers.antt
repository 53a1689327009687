use Rattle.std.proofs.Common.{refl, arith}
use Rattle.sha2_blocks.specs.LongHashers.{HoldsLong}
use Rattle.sha2_blocks.proofs.Pieces.{all_ended, kept_twice}
use Rattle.sha2_blocks.proofs.Words.{long}
use Rattle.sha2_blocks.proofs.long_hashers.LongHasher.finish.Goals as goal

pub returns-clause-kept : goal.returns-clause-kept
returns-clause-kept c = kept_twice long c.args.self.hashes _ _ _ _ _ _ c.take_blocks.ensures refl

pub returns-clause-hashes : goal.returns-clause-hashes
unfolding HoldsLong
returns-clause-hashes c = λ m held.
    let count = c.put_last-count.ensures in
    all_ended long c.args.self.hashes _ c.args.self.rest m c.put_last-count.new.last c.args.self.total
    c.put_last-count.result held c.take_blocks.ensures count.edge (omega (arith, count.within)) count.octets
