use Rattle.evidence_making.proofs.RootStamps.{one_case, standing_stamps, stamps_have_time}
use Rattle.evidence_making.proofs.laws.stamps_are_of_roots.Goals as goal

pub returns-clause-one_case : goal.returns-clause-one_case
returns-clause-one_case c = one_case

pub returns-clause-standing : goal.returns-clause-standing
returns-clause-standing c = standing_stamps

pub returns-clause-time : goal.returns-clause-time
returns-clause-time c = stamps_have_time
