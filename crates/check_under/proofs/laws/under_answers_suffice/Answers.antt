use Rattle.check_under.proofs.Suffices.{yes_under_suffices, refusals_under_suffice}
use Rattle.check_under.proofs.laws.under_answers_suffice.Goals as goal

pub returns-clause-yes : goal.returns-clause-yes
returns-clause-yes c = yes_under_suffices c.record_answers_suffice.ensures.showing c.questions_suffice.ensures.yes

pub returns-clause-refusals : goal.returns-clause-refusals
returns-clause-refusals c = refusals_under_suffice c.record_answers_suffice.ensures.showing
    c.record_answers_suffice.ensures.refusing c.questions_suffice.ensures.refusals
