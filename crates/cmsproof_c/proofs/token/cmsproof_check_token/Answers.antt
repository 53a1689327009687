use Rattle.cmsproof_c.proofs.Held.{passes_held}
use Rattle.cmsproof_c.proofs.token.cmsproof_check_token.Goals as goal

pub returns-clause-headline : goal.returns-clause-headline
returns-clause-headline c =
    passes_held c.args.token.now c.args.stamped.now c.args.sha1 c.check_held-told.result.said
    c.check_held-told.result.status _ _
    c.check_held-told.ensures.verdict
