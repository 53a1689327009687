use Rattle.sha2_blocks.proofs.ShortPairs.{sigma0_lanes}
use Rattle.sha2_blocks.proofs.short_pairs.upper_sigma0.Goals as goal

pub returns : goal.returns
returns c = λ words held. sigma0_lanes c.args.x words c.fits-x.0 held
