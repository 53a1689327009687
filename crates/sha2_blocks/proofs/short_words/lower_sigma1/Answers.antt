use Rattle.sha2_blocks.proofs.ShortSchedules.{sigma1_lanes}
use Rattle.sha2_blocks.proofs.short_words.lower_sigma1.Goals as goal

pub returns : goal.returns
returns c = sigma1_lanes c.args.x c.fits-x.0
