use Rattle.sha2_blocks.proofs.Lanes.{low_majority_lanes, majority_lanes}
use Rattle.sha2_blocks.proofs.pairs.majority.Goals as goal

pub returns-clause-long : goal.returns-clause-long
returns-clause-long c = majority_lanes c.args.x c.args.y c.args.z c.fits-x.0 c.fits-y.0 c.fits-z.0

pub returns-clause-short : goal.returns-clause-short
returns-clause-short c = low_majority_lanes c.args.x c.args.y c.args.z c.fits-x.0 c.fits-y.0 c.fits-z.0
