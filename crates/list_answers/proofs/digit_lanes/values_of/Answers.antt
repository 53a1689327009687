use Rattle.list_answers.proofs.LaneDigits.{values_are, values_long}
use Rattle.list_answers.proofs.digit_lanes.values_of.Goals as goal

pub returns-clause-values : goal.returns-clause-values
returns-clause-values c = values_are c.args.octets c.fits-octets.0 c.fits-octets.1

pub returns-clause-all : goal.returns-clause-all
returns-clause-all c = values_long c.args.octets c.fits-octets.0
