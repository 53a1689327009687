use Rattle.library_calls.specs.Checked.{handed}
use Rattle.cmsproof_c.proofs.Held.{yes_held, moment_held, sufficient_held, asked_held}
use Rattle.cmsproof_c.proofs.check.cmsproof_check.Goals as goal

pub returns-clause-headline : goal.returns-clause-headline
returns-clause-headline c =
    yes_held c.args.file.now (handed c.args.content_given c.args.content.now) c.args.sha1 c.check_held-told.result.said
    c.check_held-told.result.status _ c.check_held-told.result.size _ _ _ c.check_held-told.ensures.verdict

pub returns-clause-moment : goal.returns-clause-moment
returns-clause-moment c =
    moment_held c.args.file.now (handed c.args.content_given c.args.content.now) c.args.sha1
    c.check_held-told.result.said
    c.check_held-told.result.status _ c.check_held-told.result.size _ _ _ c.check_held-told.ensures.verdict

pub returns-clause-sufficient : goal.returns-clause-sufficient
returns-clause-sufficient c =
    sufficient_held c.args.file.now (handed c.args.content_given c.args.content.now) c.args.sha1
    c.check_held-told.result.said
    c.check_held-told.result.status _ c.check_held-told.result.size _ _ _ c.check_held-told.ensures.verdict

pub returns-clause-asked : goal.returns-clause-asked
returns-clause-asked c =
    asked_held c.args.file.now (handed c.args.content_given c.args.content.now) c.args.sha1
    c.check_held-told.result.said
    c.check_held-told.result.status _ c.check_held-told.result.size _ _ _ c.check_held-told.ensures.verdict
