use Rattle.std.proofs.Common.{◌≤◌, length}
use Rattle.trust_lists.specs.Chains.{AreHeads, AreLinks}
use Rattle.trust_lists.proofs.chains.link.Given as goal

-- the chains of the places so far
abbrev pub invariant-loop-at : goal.invariant-loop-at
invariant-loop-at l = record {
  within : l.at ≤ length l.labels;
  heads : AreHeads l.labels l.heads l.at;
  links : AreLinks l.labels l.links l.at;
}

abbrev pub decreases-loop-at : goal.decreases-loop-at
decreases-loop-at l = l.at
