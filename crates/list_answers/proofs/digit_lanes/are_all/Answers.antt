use Rattle.list_answers.proofs.LaneDigits.{all_digits}
use Rattle.list_answers.proofs.digit_lanes.are_all.Goals as goal

pub returns : goal.returns
returns c = all_digits c.args.first c.args.second c.fits-first.0 c.fits-second.0
