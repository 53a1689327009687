use Rattle.evidence_making.proofs.Standing.{renewed_stamps_stand, rehashed_stamps_stand}
use Rattle.evidence_making.proofs.laws.new_stamps_stand.Goals as goal

pub returns-clause-renewed : goal.returns-clause-renewed
returns-clause-renewed c = renewed_stamps_stand

pub returns-clause-rehashed : goal.returns-clause-rehashed
returns-clause-rehashed c = rehashed_stamps_stand
