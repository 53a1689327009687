use Rattle.std.proofs.Common.{refl}
use Rattle.list_answers.proofs.LaneDigits.{pairs_are}
use Rattle.list_answers.proofs.digit_lanes.sixteen.Goals as goal

pub returns-then-are_all : goal.returns-then-are_all
returns-then-are_all c =
    let below = c.if-are_all.ensures refl in
    pairs_are c.args.text.now c.args.at c.values_of-first.result c.values_of-second.result c.octets_of.result
    c.values_of-first.ensures.values
    c.values_of-second.ensures.values c.values_of-first.ensures.all below.0 below.1 c.octets_of.ensures
