use Rattle.std.proofs.Common.{◌≡◌, ◌-◌, ◌<◌, ◌%◌, length, get_or}
use Rattle.trust_lists.specs.Chains.{NoneAt, chain_at}
use Rattle.trust_lists.proofs.chains.Chains.next.Given as goal

-- the place is of the label's chain, and the label stands at none of those that were passed over
abbrev pub invariant-loop-at : goal.invariant-loop-at
invariant-loop-at l = record {
  there : l.at < length l.self-inside.labels.items
      → chain_at l.self-inside.labels.items l.at ≡ l.label % length l.self-inside.labels.items;
  passed : NoneAt (λ i. get_or l.self-inside.labels.items i 0 ≡ l.label) l.from l.at;
}

abbrev pub decreases-loop-at : goal.decreases-loop-at
decreases-loop-at l = length l.self-inside.labels.items - l.at
