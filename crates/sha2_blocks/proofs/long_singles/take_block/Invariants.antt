use Rattle.std.proofs.Common.{◌*◌}
use Rattle.sha2_blocks.specs.LongSteps.{HaveCome}
use Rattle.sha2_blocks.proofs.long_singles.take_block.Given as goal

abbrev pub invariant-turns : goal.invariant-turns
invariant-turns l = HaveCome l.stage l.fn.hash l.block (16 * l.turn)
