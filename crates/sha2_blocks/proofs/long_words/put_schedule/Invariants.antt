use Rattle.std.proofs.Common.{◌+◌, ◌*◌}
use Rattle.sha2.specs.Sha512.{schedule}
use Rattle.sha2_blocks.specs.LongSteps.{AreSixteen}
use Rattle.sha2_blocks.specs.Sums.{AreLongSums}
use Rattle.sha2_blocks.proofs.long_words.put_schedule.Given as goal

-- the sixteen words that come next, and the sums up to them
abbrev pub invariant-turns : goal.invariant-turns
invariant-turns l = record {
  words : AreSixteen l.w (schedule l.block 64) (16 * l.turn);
  sums : AreLongSums l.sums (schedule l.block 64) (16 * l.turn + 16);
}
