use Rattle.std.proofs.Common.{refl}
use Rattle.sha2.specs.Sha256.{hash_after}
use Rattle.sha2_blocks.specs.ShortHashers.{HoldsShort}
use Rattle.sha2_blocks.proofs.Words.{short, each_then, kept_same}
use Rattle.sha2_blocks.proofs.short_hashers.ShortHasher.new.Goals as goal

pub returns-clause-kept : goal.returns-clause-kept
returns-clause-kept c = kept_same short _

pub returns-clause-fed : goal.returns-clause-fed
unfolding HoldsShort hash_after
returns-clause-fed c = λ initial. (refl, each_then short _ _ _ initial (λ i h is. (is, refl)))
