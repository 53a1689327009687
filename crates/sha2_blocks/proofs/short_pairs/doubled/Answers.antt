use Rattle.sha2_blocks.proofs.ShortPairs.{doubled_lanes}
use Rattle.sha2_blocks.proofs.short_pairs.doubled.Goals as goal

pub returns : goal.returns
returns c = doubled_lanes c.args.x c.fits-x.0
