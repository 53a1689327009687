use Rattle.evidence_making.proofs.Renewals.{chains_show_after}
use Rattle.evidence_making.proofs.Renewed.{names_are_found, renewed_show, rehashed_show}
use Rattle.evidence_making.proofs.laws.renewed_records_show.Goals as goal

pub returns-clause-named : goal.returns-clause-named
returns-clause-named c = names_are_found

pub returns-clause-chains : goal.returns-clause-chains
returns-clause-chains c = chains_show_after

pub returns-clause-renewed : goal.returns-clause-renewed
returns-clause-renewed c = renewed_show

pub returns-clause-rehashed : goal.returns-clause-rehashed
returns-clause-rehashed c = rehashed_show
