use Rattle.library_records.specs.Renewals.{IsRenewed, RenewsNot}
use Rattle.cmsproof_c.proofs.HeldTrees.{tells_by}
use Rattle.cmsproof_c.proofs.making.cmsproof_evidence_renew.Goals as goal

pub returns-clause-renewed : goal.returns-clause-renewed
returns-clause-renewed c =
    tells_by (λ t. IsRenewed t c.args.token.now c.args.evidence.now)
    (λ t. RenewsNot t c.args.token.now c.args.evidence.now) c.tell_renewed-told.result.said
    c.tell_renewed-told.result.status _ c.tell_renewed-told.result.size _ _ _ _ c.in-Some.ensures.taken c.deref.ensures
    c.tell_renewed-told.ensures
