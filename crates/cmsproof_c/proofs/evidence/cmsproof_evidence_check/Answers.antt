use Rattle.cmsproof_c.specs.Held.{stated}
use Rattle.cmsproof_c.proofs.Held.{shown_held, alike_held}
use Rattle.cmsproof_c.proofs.evidence.cmsproof_evidence_check.Goals as goal

pub returns-clause-headline : goal.returns-clause-headline
returns-clause-headline c =
    shown_held (stated c.args.evidence.now c.args.joined.now c.args.lengths.now c.args.ends.now c.args.at.now
    c.args.whole) c.check_held-told.result.said c.check_held-told.result.status _ _ _ _ _
    c.check_held-told.ensures.verdict

pub returns-clause-sufficient : goal.returns-clause-sufficient
returns-clause-sufficient c =
    alike_held (stated c.args.evidence.now c.args.joined.now c.args.lengths.now c.args.ends.now c.args.at.now
    c.args.whole) c.check_held-told.result.said c.check_held-told.result.status _ _ _ _ _
    c.check_held-told.ensures.verdict
