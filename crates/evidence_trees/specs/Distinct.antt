-- Values in ascending order without those that stand twice.
use Rattle.std.specs.Prelude.{ℕ, List, [], ◌∷◌, if◌then◌else◌}
use Rattle.der_core.specs.Lists.{is_same}

-- the values that differ from the one before them, after this one
abbrev pub once_after : List ℕ → List (List ℕ) → List (List ℕ)
once_after v [] = []
once_after v (w ∷ values) = if is_same w v then once_after v values else w ∷ once_after w values

abbrev pub once : List (List ℕ) → List (List ℕ)
once [] = []
once (v ∷ values) = v ∷ once_after v values
