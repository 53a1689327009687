-- Words in a list.
use Rattle.std.proofs.Common.{◌≡◌, ℕ, List, [], ◌∷◌, length, slice_index_or, sym, arith}
use Rattle.curve_points.specs.Words.{number}
use Rattle.curve_p384.specs.Numbers.{six_words}

pub listed : (a b c d e f : ℕ) → number (a ∷ b ∷ c ∷ d ∷ e ∷ f ∷ []) ≡ six_words a b c d e f
unfolding number
listed a b c d e f = omega arith

pub read_words : (ws : List ℕ) → length ws ≡ 6
    → six_words (slice_index_or ws 0 0) (slice_index_or ws 1 0) (slice_index_or ws 2 0) (slice_index_or ws 3 0)
    (slice_index_or ws 4 0) (slice_index_or ws 5 0)
    ≡ number ws
read_words [] h = absurd (omega arith)
read_words (a ∷ []) h = absurd (omega arith)
read_words (a ∷ b ∷ []) h = absurd (omega arith)
read_words (a ∷ b ∷ c ∷ []) h = absurd (omega arith)
read_words (a ∷ b ∷ c ∷ d ∷ []) h = absurd (omega arith)
read_words (a ∷ b ∷ c ∷ d ∷ e ∷ []) h = absurd (omega arith)
read_words (a ∷ b ∷ c ∷ d ∷ e ∷ f ∷ []) h = sym (listed a b c d e f)
read_words (a ∷ b ∷ c ∷ d ∷ e ∷ f ∷ g ∷ gs) h = absurd (omega arith)
