-- What the standard output took, and how it fails to take all.
use Rattle.std.specs.Prelude.{◌≡◌, ◌⊎◌, ℕ, List, take, Option}
use Rattle.std.specs.Borrow.{Bor}
use Rattle.std.specs.Io.KnownBytes.{Appends}
use Rattle.cli_failures.specs.declared.failure.Failure.{Failure}
use Rattle.cli_failures.specs.declared.failure.Failure.TheVariants.{Memory, Write}

-- a writer took a beginning of a text, if what it takes is known
abbrev pub Begins : (before after : Option (List ℕ)) → (text : List ℕ) → Type 0
Begins before after text = (count : ℕ) × Appends before after (take count text)

-- a line was not printed: memory ran out, or the output failed
abbrev pub IsLost : Failure → Type 0
IsLost f = (f ≡ Memory) ⊎ ((output : Bor (List ℕ)) × (f ≡ Write output))
