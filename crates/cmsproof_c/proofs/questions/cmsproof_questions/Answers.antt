use Rattle.std.proofs.Common.{◌∙◌}
use Rattle.cmsproof_c.proofs.Held.{asks_by, only_held, malformed_held, another_held}
use Rattle.cmsproof_c.proofs.questions.cmsproof_questions.Goals as goal

pub returns-clause-only : goal.returns-clause-only
returns-clause-only c =
    only_held c.args.octets.now c.tell_questions-told.result.said c.tell_questions-told.result.status _
    c.tell_questions-told.result.size _ _
    (asks_by c.args.octets.now c.tell_questions-told.result.said c.tell_questions-told.result.status _
    c.tell_questions-told.result.size _ _ _ _ c.in-Some.ensures.taken (c.list.ensures ∙ c.deref.ensures)
    c.tell_questions-told.ensures)

pub returns-clause-malformed : goal.returns-clause-malformed
returns-clause-malformed c =
    malformed_held c.args.octets.now c.tell_questions-told.result.said c.tell_questions-told.result.status _
    c.tell_questions-told.result.size _ _
    (asks_by c.args.octets.now c.tell_questions-told.result.said c.tell_questions-told.result.status _
    c.tell_questions-told.result.size _ _ _ _ c.in-Some.ensures.taken (c.list.ensures ∙ c.deref.ensures)
    c.tell_questions-told.ensures)

pub returns-clause-another : goal.returns-clause-another
returns-clause-another c =
    another_held c.args.octets.now c.tell_questions-told.result.said c.tell_questions-told.result.status _
    c.tell_questions-told.result.size _ _
    (asks_by c.args.octets.now c.tell_questions-told.result.said c.tell_questions-told.result.status _
    c.tell_questions-told.result.size _ _ _ _ c.in-Some.ensures.taken (c.list.ensures ∙ c.deref.ensures)
    c.tell_questions-told.ensures)
