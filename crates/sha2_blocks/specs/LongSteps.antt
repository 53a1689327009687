-- How the code takes a block of SHA-384, SHA-512, SHA-512/224 or SHA-512/256: the schedule two words at a time, with
-- the round constants added, beside the rounds or before them.
use Rattle.std.specs.Prelude.{◌≡◌, ℕ, ◌+◌, List, [], ◌∷◌, slice_index}
use Rattle.sha2.specs.Sha512.{add64, round_constants, rounds, schedule}
use Rattle.sha2_blocks.specs.declared.long_singles.Stage.{Stage}
use Rattle.sha2_blocks.specs.declared.long_words.Sixteen.{Sixteen}

-- the two words from word t on
abbrev pub two_words : List ℕ → ℕ → List ℕ
two_words ws t = slice_index ws t ∷ slice_index ws (t + 1) ∷ []

-- these are the sixteen words from word t on
pub record AreSixteen (w : Sixteen) (ws : List ℕ) (t : ℕ) : Type 0 where
  pub first : w.w0 ≡ two_words ws t
  pub second : w.w1 ≡ two_words ws (t + 2)
  pub third : w.w2 ≡ two_words ws (t + 4)
  pub fourth : w.w3 ≡ two_words ws (t + 6)
  pub fifth : w.w4 ≡ two_words ws (t + 8)
  pub sixth : w.w5 ≡ two_words ws (t + 10)
  pub seventh : w.w6 ≡ two_words ws (t + 12)
  pub eighth : w.w7 ≡ two_words ws (t + 14)

-- the sums of a round constant and a word, from word t on
abbrev pub two_sums : List ℕ → ℕ → List ℕ
two_sums ws t = add64 (slice_index round_constants t) (slice_index ws t)
    ∷ add64 (slice_index round_constants (t + 1)) (slice_index ws (t + 1)) ∷ []

-- of block b, t rounds were taken on hash value h: the words that come next, and the working variables
pub record HaveCome (stage : Stage) (h b : List ℕ) (t : ℕ) : Type 0 where
  pub words : AreSixteen stage.words (schedule b 64) t
  pub variables : stage.variables ≡ rounds h (schedule b 64) t
