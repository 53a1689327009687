-- The hash values of good lists are fewer than the octets of the lists.
use Rattle.std.proofs.Common.{◌≡◌, ℕ, ◌+◌, ◌<◌, ◌≤◌, ◌^◌, ◌∷◌, [], List, length, arith, length-append}
use Rattle.std.proofs.lemmas.Grind.{common_steps}
use Rattle.der_core.specs.Element.{el}
use Rattle.evidence_types.specs.StampValue.{hash_list_parts, hash_list_element, hash_lists_parts, GoodHashLists}
use Rattle.lines_shown.specs.EvidenceLines.{values_count}

-- an element is longer than its contents
el_longer : (t : ℕ) (b : List ℕ) → length b < length (el t b)
el_longer t b = grind (arith, common_steps)

of_list : (values : List (List ℕ)) → length values ≤ length (hash_list_parts values)
of_list [] = omega arith
of_list (v ∷ vs) = grind (arith, common_steps, el_longer 0x04 v, of_list vs)

of_lists : (lists : List (List (List ℕ))) → values_count lists ≤ length (hash_lists_parts lists)
of_lists [] = omega arith
of_lists (l ∷ ls) = grind (arith, common_steps, el_longer 0x30 (hash_list_parts l), of_list l, of_lists ls)

pub values_below : (lists : List (List (List ℕ))) → GoodHashLists lists → values_count lists < 2 ^ 32
values_below lists good = omega (arith, of_lists lists, good.size)
