-- Values in ascending order of their octets, and elements of some tags.
use Rattle.std.specs.Prelude.{◌≡◌, ℕ, Bool, false, List, [], ◌∷◌, ◌==◌}
use Rattle.der_core.specs.Lists.{some, is_less}

-- none is less than the one before it, and the first is not less than these octets (X.690, 11.6)
abbrev pub AscendsFrom : List ℕ → List (List ℕ) → Type 0
AscendsFrom last [] = Unit {0}
AscendsFrom last (x ∷ xs) = (is_less x last ≡ false) × AscendsFrom x xs

-- none is less than the one before it: nothing is less than the empty list of octets
abbrev pub Ascending : List (List ℕ) → Type 0
Ascending xs = AscendsFrom [] xs

-- the identifier is one of these
abbrev pub is_tagged : List ℕ → List ℕ → Bool
is_tagged tags [] = false
is_tagged tags (t ∷ xs) = some (λ u. u == t) tags
