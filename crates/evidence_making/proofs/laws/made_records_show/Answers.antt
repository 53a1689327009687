use Rattle.evidence_making.proofs.Made.{made_stamps_stand, made_records_show, one_record}
use Rattle.evidence_making.proofs.laws.made_records_show.Goals as goal

pub returns-clause-stands : goal.returns-clause-stands
returns-clause-stands c = made_stamps_stand

pub returns-clause-shows : goal.returns-clause-shows
returns-clause-shows c = made_records_show

pub returns-clause-one : goal.returns-clause-one
returns-clause-one c = one_record
