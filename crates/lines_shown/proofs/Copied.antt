-- What holds of a value behind a reference holds of the value.
use Rattle.std.proofs.Common.{ℕ, List, Option, Some, None, IfSome, Bor, option_copied}

pub some_copied : (P : List ℕ → Type 0) (o : Option (Bor (List ℕ))) → IfSome o (λ x. P x.now)
    → IfSome (option_copied o) P
some_copied P None h = h
some_copied P (Some x) h = h
