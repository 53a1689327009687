use Rattle.list_answers.proofs.LaneDigits.{joined_are}
use Rattle.list_answers.proofs.digit_lanes.joined.Goals as goal

pub returns-clause-pairs : goal.returns-clause-pairs
returns-clause-pairs c = joined_are c.args.values c.fits-values.0 c.requires
