use Rattle.std.proofs.Common.{refl}
use Rattle.sha2.specs.Sha512.{hash_after}
use Rattle.sha2_blocks.specs.LongHashers.{HoldsLong}
use Rattle.sha2_blocks.proofs.Words.{long, each_then, kept_same}
use Rattle.sha2_blocks.proofs.long_hashers.LongHasher.new.Goals as goal

pub returns-clause-kept : goal.returns-clause-kept
returns-clause-kept c = kept_same long _

pub returns-clause-fed : goal.returns-clause-fed
unfolding HoldsLong hash_after
returns-clause-fed c = λ initial. (refl, each_then long _ _ _ initial (λ i h is. (is, refl)))
