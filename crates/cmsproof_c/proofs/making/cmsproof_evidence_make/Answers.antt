use Rattle.library_records.specs.Records.{IsRecordOf, MakesNoRecord}
use Rattle.cmsproof_c.proofs.HeldTrees.{tells_by}
use Rattle.cmsproof_c.proofs.making.cmsproof_evidence_make.Goals as goal

pub returns-clause-record : goal.returns-clause-record
returns-clause-record c =
    tells_by (λ t. IsRecordOf t c.args.digest.now c.args.token.now)
    (λ t. MakesNoRecord t c.args.digest.now c.args.token.now) c.tell_record-told.result.said
    c.tell_record-told.result.status _ c.tell_record-told.result.size _ _ _ _ c.in-Some.ensures.taken c.deref.ensures
    c.tell_record-told.ensures
