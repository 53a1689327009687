use Rattle.list_answers.proofs.LaneDigits.{octets_are}
use Rattle.list_answers.proofs.digit_lanes.octets_of.Goals as goal

pub returns : goal.returns
returns c = octets_are c.args.first c.args.second c.joined.result c.joined-2.result c.fits-first.0 c.joined.ensures.all
    c.requires.0 c.requires.1 c.joined.ensures.pairs c.joined-2.ensures.pairs
