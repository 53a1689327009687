use Rattle.std.proofs.Common.{arith, w32}
use Rattle.sha2_blocks.proofs.Bits.{choose_is}
use Rattle.sha2_blocks.proofs.short_rounds.choose.Goals as goal

pub returns : goal.returns
returns c = choose_is w32 c.args.x c.args.y c.args.z (omega arith) (omega arith) (omega arith)
