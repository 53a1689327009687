use Rattle.evidence_making.proofs.Already.{is_by}
use Rattle.evidence_making.proofs.done.is_by.Goals as goal

pub returns-in-Some : goal.returns-in-Some
returns-in-Some c = is_by c.args.stamp.now c.in-Some.its c.args.alg c.are_same.result c.in-Some.ensures
    c.are_same.ensures
