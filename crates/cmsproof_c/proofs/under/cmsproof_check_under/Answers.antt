use Rattle.cmsproof_c.specs.Held.{stated_under}
use Rattle.cmsproof_c.proofs.Held.{yes_under_held, under_alike_held}
use Rattle.cmsproof_c.proofs.under.cmsproof_check_under.Goals as goal

pub returns-clause-headline : goal.returns-clause-headline
returns-clause-headline c =
    yes_under_held (stated_under c.args.file.now c.args.content.now c.args.content_given c.args.evidence.now
    c.args.ends.now c.args.at.now) c.check_held-told.result.said c.check_held-told.result.status _ _ _ _ _
    c.check_held-told.ensures.verdict

pub returns-clause-sufficient : goal.returns-clause-sufficient
returns-clause-sufficient c =
    under_alike_held (stated_under c.args.file.now c.args.content.now c.args.content_given c.args.evidence.now
    c.args.ends.now c.args.at.now) c.check_held-told.result.said c.check_held-told.result.status _ _ _
    c.under_answers_suffice.ensures.yes c.under_answers_suffice.ensures.refusals _ _
    c.check_held-told.ensures.verdict
