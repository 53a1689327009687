-- Two hash values that take the rounds of a block at once: the lanes of a vector are the same working variable of both.
use Rattle.std.specs.Prelude.{◌≡◌, ℕ, ◌+◌, ◌*◌, ◌%◌, ◌^◌, List, [], ◌∷◌, map, slice_index}
use Rattle.sha2_blocks.specs.declared.pairs.Pair.{Pair}

-- a function of three words, in each of two lanes
abbrev pub two_lanes : (ℕ → ℕ → ℕ → ℕ) → List ℕ → List ℕ → List ℕ → List ℕ
two_lanes f x y z = f (slice_index x 0) (slice_index y 0) (slice_index z 0)
    ∷ f (slice_index x 1) (slice_index y 1) (slice_index z 1) ∷ []

-- word t of each of two lists, as two lanes
abbrev pub both_at : List ℕ → List ℕ → ℕ → List ℕ
both_at x y t = slice_index x t ∷ slice_index y t ∷ []

-- each lane is its word of 64 bits
abbrev pub HoldOnce : List ℕ → List ℕ → Type 0
HoldOnce lanes words = lanes ≡ words

-- the words in the low halves of lanes
abbrev pub low_words : List ℕ → List ℕ
low_words lanes = map (λ (lane : ℕ). lane % 2 ^ 32) lanes

-- each lane holds its word of 32 bits twice, in its low and in its high half
pub record HoldTwice (lanes words : List ℕ) : Type 0 where
  pub low : low_words lanes ≡ words
  pub halves : lanes ≡ map (λ (word : ℕ). word * 2 ^ 32 + word) words

-- the first lanes hold the working variables x, and the second ones y
pub record AreBoth (Hold : List ℕ → List ℕ → Type 0) (v : Pair) (x y : List ℕ) : Type 0 where
  pub a : Hold v.a (both_at x y 0)
  pub b : Hold v.b (both_at x y 1)
  pub c : Hold v.c (both_at x y 2)
  pub d : Hold v.d (both_at x y 3)
  pub e : Hold v.e (both_at x y 4)
  pub f : Hold v.f (both_at x y 5)
  pub g : Hold v.g (both_at x y 6)
  pub h : Hold v.h (both_at x y 7)
