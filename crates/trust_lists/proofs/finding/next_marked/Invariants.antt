use Rattle.std.proofs.Common.{◌-◌, ◌≤◌, length}
use Rattle.trust_lists.specs.Chains.{NoneAt}
use Rattle.trust_lists.specs.Marks.{StandsAt}
use Rattle.trust_lists.proofs.finding.next_marked.Given as goal

-- none of those that were passed over has the role and the mark
abbrev pub invariant-loop-found : goal.invariant-loop-found
invariant-loop-found l = (l.initial.at ≤ l.at) × NoneAt (StandsAt l.role l.mark l.entries l.labels) l.initial.at l.at

abbrev pub decreases-loop-found : goal.decreases-loop-found
decreases-loop-found l = length l.entries - l.at
