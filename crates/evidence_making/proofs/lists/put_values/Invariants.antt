use Rattle.std.proofs.Common.{◌≡◌, ◌≤◌, ◌++◌, length}
use Rattle.evidence_types.specs.StampValue.{hash_list_parts}
use Rattle.evidence_making.proofs.lists.put_values.Given as goal

-- what is past and what is left make up all
abbrev pub invariant-loop-value : goal.invariant-loop-value
invariant-loop-value l = (l.out.items ++ hash_list_parts l.left ≡ l.fn.out.items ++ hash_list_parts l.group.values)
    × (length (hash_list_parts l.left) ≤ length (hash_list_parts l.group.values))

abbrev pub decreases-loop-value : goal.decreases-loop-value
decreases-loop-value l = length l.left
