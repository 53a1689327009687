use Rattle.std.proofs.Common.{◌≡◌}
use Rattle.sha2.specs.Sha256.{hash_after}
use Rattle.sha2_blocks.proofs.short_pairs.take_each.Given as goal

abbrev pub invariant-each : goal.invariant-each
invariant-each l = record {
  first : l.first ≡ hash_after l.fn.first l.octets l.i;
  second : l.second ≡ hash_after l.fn.second l.octets l.i;
}
