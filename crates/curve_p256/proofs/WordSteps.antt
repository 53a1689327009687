-- Words in a list.
use Rattle.std.proofs.Common.{◌≡◌, ℕ, List, [], ◌∷◌, length, slice_index_or, sym, arith}
use Rattle.curve_points.specs.Words.{number}
use Rattle.curve_p256.specs.Numbers.{four_words}

pub listed : (a b c d : ℕ) → number (a ∷ b ∷ c ∷ d ∷ []) ≡ four_words a b c d
unfolding number
listed a b c d = omega arith

pub read_words : (ws : List ℕ) → length ws ≡ 4
    → four_words (slice_index_or ws 0 0) (slice_index_or ws 1 0) (slice_index_or ws 2 0) (slice_index_or ws 3 0)
    ≡ number ws
read_words [] h = absurd (omega arith)
read_words (a ∷ []) h = absurd (omega arith)
read_words (a ∷ b ∷ []) h = absurd (omega arith)
read_words (a ∷ b ∷ c ∷ []) h = absurd (omega arith)
read_words (a ∷ b ∷ c ∷ d ∷ []) h = sym (listed a b c d)
read_words (a ∷ b ∷ c ∷ d ∷ g ∷ gs) h = absurd (omega arith)
