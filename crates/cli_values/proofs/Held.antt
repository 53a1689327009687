-- The octets that were lent of what was read are those of the file.
use Rattle.std.proofs.Common.{◌≡◌, ℕ, List, Option, sym, subst}
use Rattle.cli_failures.specs.Files.{IsHeld}

pub held_as : {F : Type 0} (holds : F → Option (List ℕ)) (lent items : List ℕ) → lent ≡ items → IsHeld holds items
    → IsHeld holds lent
held_as holds lent items same read = subst (λ (octets : List ℕ). IsHeld holds octets) (sym same) read
