use Rattle.sha2_blocks.proofs.ShortPairs.{sigma1_lanes}
use Rattle.sha2_blocks.proofs.short_pairs.upper_sigma1.Goals as goal

pub returns : goal.returns
returns c = λ words held. sigma1_lanes c.args.x words c.fits-x.0 held
