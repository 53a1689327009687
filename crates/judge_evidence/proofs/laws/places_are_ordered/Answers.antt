use Rattle.check_evidence.proofs.Places.{places_ordered}
use Rattle.judge_evidence.proofs.Going.{never_itself, never_both, first_begins, next_goes_on, last_ends}
use Rattle.judge_evidence.proofs.laws.places_are_ordered.Goals as goal

pub returns-clause-ordered : goal.returns-clause-ordered
returns-clause-ordered c = places_ordered

pub returns-clause-never_itself : goal.returns-clause-never_itself
returns-clause-never_itself c = never_itself

pub returns-clause-never_both : goal.returns-clause-never_both
returns-clause-never_both c = never_both

pub returns-clause-begins : goal.returns-clause-begins
returns-clause-begins c = first_begins

pub returns-clause-goes_on : goal.returns-clause-goes_on
returns-clause-goes_on c = next_goes_on

pub returns-clause-ends : goal.returns-clause-ends
returns-clause-ends c = last_ends
