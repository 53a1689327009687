use Rattle.check_under.proofs.Accepted.{accepted_beside, accepted_under}
use Rattle.check_under.proofs.InTime.{in_time_under}
use Rattle.check_under.proofs.Questions.{questions_under}
use Rattle.check_under.proofs.Terms.{under_one_moment, under_never_both}
use Rattle.check_under.proofs.laws.under_is_judged.Goals as goal

pub returns-clause-one_moment : goal.returns-clause-one_moment
returns-clause-one_moment c = under_one_moment c.records_are_judged.ensures.one_moment

pub returns-clause-in_time : goal.returns-clause-in_time
returns-clause-in_time c = in_time_under c.records_are_judged.ensures.one_moment

pub returns-clause-never_both : goal.returns-clause-never_both
returns-clause-never_both c =
    under_never_both c.records_are_judged.ensures.one_moment c.records_are_judged.ensures.never_both

pub returns-clause-questions : goal.returns-clause-questions
returns-clause-questions c = questions_under

pub returns-clause-accepted : goal.returns-clause-accepted
returns-clause-accepted c = accepted_beside

pub returns-clause-under : goal.returns-clause-under
returns-clause-under c = accepted_under
