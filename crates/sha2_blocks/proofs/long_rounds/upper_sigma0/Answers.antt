use Rattle.std.proofs.Common.{arith}
use Rattle.sha2_blocks.proofs.Bits.{long_sigma0_is}
use Rattle.sha2_blocks.proofs.long_rounds.upper_sigma0.Goals as goal

pub returns : goal.returns
returns c = rw (c.rotate_right-3.ensures, c.rotate_right-2.ensures, c.rotate_right.ensures)
    (long_sigma0_is c.args.x (omega arith))
