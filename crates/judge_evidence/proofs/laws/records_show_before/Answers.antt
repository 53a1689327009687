use Rattle.judge_evidence.proofs.Before.{chains_show_before}
use Rattle.judge_evidence.proofs.Recorded.{shown_before}
use Rattle.judge_evidence.proofs.laws.records_show_before.Goals as goal

pub returns-clause-chains : goal.returns-clause-chains
returns-clause-chains c = chains_show_before

pub returns-clause-records : goal.returns-clause-records
returns-clause-records c = shown_before
