use Rattle.sha2_blocks.proofs.Lanes.{choose_lanes, low_choose_lanes}
use Rattle.sha2_blocks.proofs.pairs.choose.Goals as goal

pub returns-clause-long : goal.returns-clause-long
returns-clause-long c =
    choose_lanes c.args.x c.args.y c.args.z c.fits-x.0 c.fits-y.0 c.fits-z.0 c.fits-x.1 c.fits-y.1 c.fits-z.1

pub returns-clause-short : goal.returns-clause-short
returns-clause-short c = low_choose_lanes c.args.x c.args.y c.args.z c.fits-x.0 c.fits-y.0 c.fits-z.0
