-- The sums of round constants and words, which the code keeps of a block.
use Rattle.std.specs.Prelude.{◌≡◌, ℕ, ◌<◌, List, slice_index}
use Rattle.sha2.specs.Sha256 as short
use Rattle.sha2.specs.Sha512 as long

-- the first n sums of a constant and a word
abbrev pub AreSums : (ℕ → ℕ → ℕ) → List ℕ → List ℕ → List ℕ → ℕ → Type 0
AreSums add constants sums ws n = (t : ℕ) → t < n
    → slice_index sums t ≡ add (slice_index constants t) (slice_index ws t)

-- of words of 32 bits
abbrev pub AreShortSums : List ℕ → List ℕ → ℕ → Type 0
AreShortSums sums ws n = AreSums short.add32 short.round_constants sums ws n

-- of words of 64 bits
abbrev pub AreLongSums : List ℕ → List ℕ → ℕ → Type 0
AreLongSums sums ws n = AreSums long.add64 long.round_constants sums ws n
