use Rattle.sha2_blocks.proofs.ShortSchedules.{sigma0_lanes}
use Rattle.sha2_blocks.proofs.short_words.lower_sigma0.Goals as goal

pub returns : goal.returns
returns c = sigma0_lanes c.args.x c.fits-x.0
