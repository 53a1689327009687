use Rattle.judge_evidence.proofs.Recorded.{shown_by_chains}
use Rattle.judge_evidence.proofs.laws.records_show_by_chains.Goals as goal

pub returns : goal.returns
returns c = shown_by_chains
