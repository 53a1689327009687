-- What the steps of writing a trust list hold.
use Rattle.std.specs.Prelude.{ℕ, List, codes, Option, Some, None}

-- the word of an end
abbrev pub moment_word : Option (List ℕ) → List ℕ
moment_word None = codes "-"
moment_word (Some text) = text
