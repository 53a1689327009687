use Rattle.std.proofs.Common.{refl, arith}
use Rattle.sha2_blocks.specs.ShortHashers.{HoldsShort}
use Rattle.sha2_blocks.proofs.Pieces.{all_ended, kept_twice}
use Rattle.sha2_blocks.proofs.Words.{short}
use Rattle.sha2_blocks.proofs.short_hashers.ShortHasher.finish.Goals as goal

pub returns-clause-kept : goal.returns-clause-kept
returns-clause-kept c = kept_twice short c.args.self.hashes _ _ _ _ _ _ c.take_blocks.ensures refl

pub returns-clause-hashes : goal.returns-clause-hashes
unfolding HoldsShort
returns-clause-hashes c = λ m held.
    let count = c.put_last-count.ensures in
    all_ended short c.args.self.hashes _ c.args.self.rest m c.put_last-count.new.last c.args.self.total
    c.put_last-count.result held c.take_blocks.ensures count.edge (omega (arith, count.within)) count.octets
