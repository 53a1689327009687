-- What is put one after the other, if it is known what was put before.
use Rattle.std.specs.Prelude.{◌≡◌, ⊤, List, ◌++◌, Option, Some, None}

-- these were put, in this order, and no others
abbrev pub Adds : {A : Type 0} → (before after : Option (List A)) → List A → Type 0
Adds None after files = ⊤
Adds (Some put) None files = ⊥
Adds (Some put) (Some all) files = all ≡ put ++ files
