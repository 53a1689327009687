use Rattle.std.proofs.Common.{◌≡◌, map, take}
use Rattle.cli_renewing.proofs.tree.leaves_of.Given as goal

-- the leaves so far
abbrev pub invariant-loop-footing : goal.invariant-loop-footing
invariant-loop-footing l = l.leaves.items ≡ map (λ f. f.leaf) (take l.footing-index l.footings)
