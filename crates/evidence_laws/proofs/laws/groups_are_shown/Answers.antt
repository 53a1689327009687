use Rattle.evidence_laws.proofs.Groups.{groups_are_shown}
use Rattle.evidence_laws.proofs.laws.groups_are_shown.Goals as goal

pub returns : goal.returns
returns c = groups_are_shown
