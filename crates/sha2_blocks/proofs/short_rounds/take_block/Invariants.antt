use Rattle.std.proofs.Common.{◌≡◌, ◌+◌, ◌*◌}
use Rattle.sha2.specs.Sha256.{rounds, schedule}
use Rattle.sha2_blocks.specs.ShortSteps.{AreSixteen}
use Rattle.sha2_blocks.specs.Sums.{AreShortSums}
use Rattle.sha2_blocks.proofs.short_rounds.take_block.Given as goal

-- the sixteen words that come next, the sums up to them, and the working variables
abbrev pub invariant-turns : goal.invariant-turns
invariant-turns l = record {
  words : AreSixteen l.w (schedule l.block 48) (16 * l.turn);
  sums : AreShortSums l.sums (schedule l.block 48) (16 * l.turn + 16);
  rounds : l.v ≡ rounds l.fn.hash (schedule l.block 48) (16 * l.turn);
}
