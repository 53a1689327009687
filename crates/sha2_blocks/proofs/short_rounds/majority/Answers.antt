use Rattle.sha2_blocks.proofs.Bits.{majority_is}
use Rattle.sha2_blocks.proofs.short_rounds.majority.Goals as goal

pub returns : goal.returns
returns c = majority_is c.args.x c.args.y c.args.z
