-- Hash values that stand in ascending order, and one more that is put in at its place.
use Rattle.std.specs.Prelude.{ℕ, Bool, true, not, ◌&&◌, List, [], ◌∷◌, if◌then◌else◌}
use Rattle.der_core.specs.Lists.{is_less}

-- whether they stand in ascending order, after this one
abbrev pub ascends_after : List ℕ → List (List ℕ) → Bool
ascends_after v [] = true
ascends_after v (w ∷ values) = not (is_less w v) && ascends_after w values

abbrev pub ascends : List (List ℕ) → Bool
ascends [] = true
ascends (v ∷ values) = ascends_after v values

-- the values with one more before the first that isn't before it
abbrev pub put_in : List ℕ → List (List ℕ) → List (List ℕ)
put_in node [] = node ∷ []
put_in node (v ∷ values) = if is_less v node then v ∷ put_in node values else node ∷ v ∷ values
