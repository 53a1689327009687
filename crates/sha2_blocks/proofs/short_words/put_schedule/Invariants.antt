use Rattle.std.proofs.Common.{◌+◌, ◌*◌}
use Rattle.sha2.specs.Sha256.{schedule}
use Rattle.sha2_blocks.specs.ShortSteps.{AreSixteen}
use Rattle.sha2_blocks.specs.Sums.{AreShortSums}
use Rattle.sha2_blocks.proofs.short_words.put_schedule.Given as goal

-- the sixteen words that come next, and the sums up to them
abbrev pub invariant-turns : goal.invariant-turns
invariant-turns l = record {
  words : AreSixteen l.w (schedule l.block 48) (16 * l.turn);
  sums : AreShortSums l.sums (schedule l.block 48) (16 * l.turn + 16);
}
