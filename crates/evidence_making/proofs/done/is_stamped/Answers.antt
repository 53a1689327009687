use Rattle.evidence_making.proofs.Already.{after_if, never_after}
use Rattle.evidence_making.proofs.RootStamps.{one_case}
use Rattle.evidence_making.proofs.done.is_stamped.Goals as goal

pub returns-in-Ok : goal.returns-in-Ok
returns-in-Ok c = after_if c.args.token.now c.args.root.now c.args.last c.in-Ok.moment c.is_later.result
    c.in-Ok.ensures.found (one_case.one_moment c.args.token.now c.args.root.now) c.is_later.ensures

pub returns-in-Err : goal.returns-in-Err
returns-in-Err c = never_after c.args.token.now c.args.root.now c.args.last c.stamp_of_root.result c.in-Err.field-0
    c.in-Err.is c.stamp_of_root.ensures.only
