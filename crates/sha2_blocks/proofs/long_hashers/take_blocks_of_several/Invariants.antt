use Rattle.std.proofs.Common.{◌≡◌}
use Rattle.sha2_blocks.specs.LongHashers.{long_after}
use Rattle.sha2_blocks.proofs.long_hashers.take_blocks_of_several.Given as goal

abbrev pub invariant-each : goal.invariant-each
invariant-each l = l.hashes ≡ long_after l.fn.hashes l.octets l.i
