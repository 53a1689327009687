use Rattle.cmsproof_c.proofs.Held.{stamped_held}
use Rattle.cmsproof_c.proofs.stamp.cmsproof_stamp_check.Goals as goal

pub returns-clause-headline : goal.returns-clause-headline
returns-clause-headline c =
    stamped_held c.args.stamp.now c.args.stamped.now c.args.sha1 c.check_held-told.result.said
    c.check_held-told.result.status _ _ _ _ _
    c.check_held-told.ensures.verdict
