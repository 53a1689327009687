use Rattle.std.proofs.Common.{List, Option, ◌∙◌, subst}
use Rattle.trust_lists.specs.Entries.{EntryValue}
use Rattle.library_calls.specs.Stamps.{IsStampQuestioned}
use Rattle.cmsproof_c.specs.Held.{AsksStamp}
use Rattle.cmsproof_c.proofs.stamp.cmsproof_stamp_questions.Goals as goal

pub returns-clause-questions : goal.returns-clause-questions
returns-clause-questions c =
    subst (λ (held : Option (List EntryValue)). AsksStamp held c.args.stamp.now c.tell_stamp_questions-told.result.said
    c.tell_stamp_questions-told.result.status c.args.text.now c.tell_stamp_questions-told.result.size
    c.tell_stamp_questions-told.new.room) c.in-Some.ensures.taken
    (subst (λ (list : List EntryValue). IsStampQuestioned list c.args.stamp.now c.tell_stamp_questions-told.result.said
    c.tell_stamp_questions-told.result.status c.args.text.now c.tell_stamp_questions-told.result.size
    c.tell_stamp_questions-told.new.room) (c.list.ensures ∙ c.deref.ensures) c.tell_stamp_questions-told.ensures)
