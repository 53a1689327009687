-- Numbers as words of 64 bits.
use Rattle.std.specs.Prelude.{ℕ, List, [], ◌∷◌, ◌+◌, ◌*◌, ◌^◌}

-- the number of words, the least first
unfoldable pub number : List ℕ → ℕ
number [] = 0
number (word ∷ words) = word + 2 ^ 64 * number words
