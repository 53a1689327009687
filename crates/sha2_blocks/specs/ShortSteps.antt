-- How the code takes a block of SHA-224 or SHA-256: the schedule four words at a time.
use Rattle.std.specs.Prelude.{◌≡◌, ℕ, ◌+◌, List, [], ◌∷◌, slice_index}
use Rattle.sha2_blocks.specs.declared.short_words.Sixteen.{Sixteen}

-- the four words from word t on
abbrev pub four_words : List ℕ → ℕ → List ℕ
four_words ws t = slice_index ws t ∷ slice_index ws (t + 1) ∷ slice_index ws (t + 2) ∷ slice_index ws (t + 3) ∷ []

-- these are the sixteen words from word t on
pub record AreSixteen (w : Sixteen) (ws : List ℕ) (t : ℕ) : Type 0 where
  pub first : w.w0 ≡ four_words ws t
  pub second : w.w1 ≡ four_words ws (t + 4)
  pub third : w.w2 ≡ four_words ws (t + 8)
  pub fourth : w.w3 ≡ four_words ws (t + 12)
