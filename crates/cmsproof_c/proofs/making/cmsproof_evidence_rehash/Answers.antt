use Rattle.library_records.specs.NewChains.{IsRehashed, RehashesNot}
use Rattle.cmsproof_c.proofs.HeldTrees.{tells_by}
use Rattle.cmsproof_c.proofs.making.cmsproof_evidence_rehash.Goals as goal

pub returns-clause-rehashed : goal.returns-clause-rehashed
returns-clause-rehashed c =
    tells_by (λ t. IsRehashed t c.args.digests.now c.args.alone c.args.token.now c.args.evidence.now)
    (λ t. RehashesNot t c.args.digests.now c.args.alone c.args.token.now c.args.evidence.now)
    c.tell_rehashed-told.result.said c.tell_rehashed-told.result.status _ c.tell_rehashed-told.result.size _ _ _ _
    c.in-Some.ensures.taken
    c.deref.ensures c.tell_rehashed-told.ensures
