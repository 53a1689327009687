use Rattle.std.proofs.Common.{List, Option, ◌∙◌, subst}
use Rattle.trust_lists.specs.Entries.{EntryValue}
use Rattle.library_records.specs.Evidence.{IsEvidenceQuestioned}
use Rattle.cmsproof_c.specs.Held.{AsksEvidence}
use Rattle.cmsproof_c.proofs.evidence.cmsproof_evidence_questions.Goals as goal

pub returns-clause-questions : goal.returns-clause-questions
returns-clause-questions c =
    subst (λ (held : Option (List EntryValue)).
    AsksEvidence held c.args.evidence.now c.tell_evidence_questions-told.result.said
    c.tell_evidence_questions-told.result.status c.args.text.now c.tell_evidence_questions-told.result.size
    c.tell_evidence_questions-told.new.room) c.in-Some.ensures.taken
    (subst (λ (list : List EntryValue).
    IsEvidenceQuestioned list c.args.evidence.now c.tell_evidence_questions-told.result.said
    c.tell_evidence_questions-told.result.status c.args.text.now c.tell_evidence_questions-told.result.size
    c.tell_evidence_questions-told.new.room) (c.list.ensures ∙ c.deref.ensures) c.tell_evidence_questions-told.ensures)
