-- Reading a list whose items are checked against what was read before them.
use Rattle.std.specs.Prelude.{ℕ, zero, suc, not, ◌&&◌, List, [], ◌∷◌, length, Result, Ok, Err, ◌==◌, if◌then◌else◌}
use Rattle.der_core.specs.declared.fault.Fault.{Fault}
use Rattle.der_core.specs.declared.fault.Kind.TheVariants.{Order, Tag}
use Rattle.der_core.specs.Element.{is_tag}
use Rattle.der_core.specs.Lists.{some, is_less}
use Rattle.der_core.specs.Reading.{fault, Spot}
use Rattle.der_core.specs.Results.{◌>>=◌}
use Rattle.der_lists.specs.Items.{Reading, opaque_item}

-- a check of what is at the front, given the octets that the last check handed on: a fault, or the octets for the next
-- check
abbrev pub Check : Type 0
Check = List ℕ → Spot → Result (List ℕ) Fault

-- the items to the end of the body, each checked before it is read; the number is a bound on how many
unfoldable pub checked_from : {A : Type 0} → Check → Reading A → ℕ → List ℕ → Spot → Result (List A) Fault
checked_from check read zero last s = Ok []
checked_from check read (suc k) last s = if length s.rest == 0 then Ok [] else (check last s >>= λ w. read s
    >>= λ x. checked_from check read k w x.1 >>= λ xs. Ok (x.0 ∷ xs))

unfoldable pub checked_in : {A : Type 0} → Check → Reading A → List ℕ → Spot → Result (List A) Fault
checked_in check read last s = checked_from check read (length s.rest) last s

-- the element at the front is not less than the last one
unfoldable pub rank_at : (Spot → Result (List ℕ) Fault) → List ℕ → Spot → Result (List ℕ) Fault
rank_at front last s = front s >>= λ w. if is_less w last then Err (fault Order s.pos) else Ok w

-- items in ascending order: none is less than the one before it (X.690 11.6)
abbrev pub ordered_in : {A : Type 0} → (Spot → Result (List ℕ) Fault) → Reading A → Spot → Result (List A) Fault
ordered_in front read s = checked_in (rank_at front) read [] s

abbrev pub tag_in : List ℕ → Spot → List ℕ → Result (List ℕ) Fault
tag_in tags s [] = Ok []
tag_in tags s (t ∷ xs) = if is_tag t && not (some (λ u. u == t) tags) then Err (fault Tag s.pos) else Ok []

-- the identifier at the front, if there is one, is one of these
unfoldable pub tag_at : List ℕ → Spot → Result (List ℕ) Fault
tag_at tags s = tag_in tags s s.rest

-- elements with these identifiers
abbrev pub tagged_in : List ℕ → Spot → Result (List (List ℕ)) Fault
tagged_in tags s = checked_in (λ last. tag_at tags) opaque_item [] s
