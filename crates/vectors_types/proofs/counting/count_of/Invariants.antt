use Rattle.std.proofs.Common.{◌≡◌, ◌+◌, ℕ, List, length, filter}
use Rattle.std.specs.List.{flat_map}
use Rattle.der_core.specs.Lists.{is_same}
use Rattle.cms_types.specs.AttributeValue.{AttributeValue}
use Rattle.vectors_types.proofs.counting.count_of.Given as goal

-- the values that were counted and those of the attributes that are left are all
abbrev pub invariant-loop-attribute : goal.invariant-loop-attribute
invariant-loop-attribute l =
    let count : List AttributeValue
    → ℕ = λ xs. length (flat_map (λ a. a.values) (filter (λ a. is_same a.id l.id) xs)) in
    l.count + count l.left ≡ count l.attributes

abbrev pub decreases-loop-attribute : goal.decreases-loop-attribute
decreases-loop-attribute l = length l.left
