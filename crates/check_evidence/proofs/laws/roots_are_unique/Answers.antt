use Rattle.check_evidence.proofs.Roots.{one_root, cover_members, have_the_root}
use Rattle.check_evidence.proofs.laws.roots_are_unique.Goals as goal

pub returns-clause-unique : goal.returns-clause-unique
returns-clause-unique c = one_root

pub returns-clause-members : goal.returns-clause-members
returns-clause-members c = cover_members

pub returns-clause-same_root : goal.returns-clause-same_root
returns-clause-same_root c = have_the_root
