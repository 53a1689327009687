use Rattle.judge_evidence.proofs.Members.{shown_of_each}
use Rattle.judge_evidence.proofs.laws.members_are_shown.Goals as goal

pub returns : goal.returns
returns c = shown_of_each c.roots_are_unique.ensures.members c.roots_are_unique.ensures.same_root
