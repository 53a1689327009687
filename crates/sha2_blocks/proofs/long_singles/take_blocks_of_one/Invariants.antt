use Rattle.std.proofs.Common.{◌≡◌}
use Rattle.sha2.specs.Sha512.{hash_after}
use Rattle.sha2_blocks.proofs.long_singles.take_blocks_of_one.Given as goal

abbrev pub invariant-each : goal.invariant-each
invariant-each l = l.hash ≡ hash_after l.fn.hash l.octets l.i
