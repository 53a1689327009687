-- The first value of lists of hash values.
use Rattle.std.specs.Prelude.{⊤, ℕ, List, [], ◌∷◌}

-- there is a first list, and it has a value, as in lists of a record that was read, and in lists that cover a value
abbrev pub HasFirst : List (List (List ℕ)) → Type 0
HasFirst [] = ⊥
HasFirst ([] ∷ lists) = ⊥
HasFirst ((v ∷ values) ∷ lists) = ⊤
