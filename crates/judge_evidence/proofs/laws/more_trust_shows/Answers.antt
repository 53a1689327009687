use Rattle.judge_evidence.proofs.MoreTrust.{shown_to_more}
use Rattle.judge_evidence.proofs.laws.more_trust_shows.Goals as goal

pub returns : goal.returns
returns c = shown_to_more
