-- The rounds of two hash values at once, whatever the length of a word.
use Rattle.std.proofs.Common.{◌≡◌, ℕ, ◌+◌, ◌*◌, ◌≤◌, List, slice_index, arith}
use Rattle.sha2_blocks.specs.declared.pairs.Pair.{Pair}
use Rattle.sha2_blocks.specs.Pairs.{AreBoth}
use Rattle.sha2_blocks.specs.Sums.{AreSums}
use Rattle.sha2_blocks.proofs.Steps.{in_eight}
use Rattle.sha2_blocks.proofs.Words.{Words, rounds_of, round_of, add_of, constants_of, schedule_of, rounds_count}
use Rattle.sha2_blocks.proofs.Words.{HoldOf, no_rounds, round_next}

module _ (w : Words) (g h : List ℕ) where
  -- t rounds were taken on both
  abbrev pub Both : Pair → List ℕ → ℕ → Type 0
  Both v ws t = AreBoth (HoldOf w) v (rounds_of w g ws t) (rounds_of w h ws t)

  abbrev pub Sums : List ℕ → List ℕ → ℕ → Type 0
  Sums sums ws n = AreSums (add_of w) (constants_of w) sums ws n

  -- before the first round
  pub both_none : {v : Pair} (ws : List ℕ) → AreBoth (HoldOf w) v g h → Both v ws 0
  both_none ws held = rw (no_rounds w g ws, no_rounds w h ws) held

  -- a round of both, with its sum
  pub both_next : (ws : List ℕ) (v next : Pair) (t sum : ℕ)
      → sum ≡ add_of w (slice_index (constants_of w) t) (slice_index ws t) → Both v ws t
      → ((x y : List ℕ) (k n : ℕ) → sum ≡ add_of w k n → AreBoth (HoldOf w) v x y
      → AreBoth (HoldOf w) next (round_of w x k n) (round_of w y k n))
      → Both next ws (t + 1)
  both_next ws v next t sum held both is =
      rw (round_next w g ws t, round_next w h ws t)
      (is (rounds_of w g ws t) (rounds_of w h ws t) (slice_index (constants_of w) t) (slice_index ws t) held both)

  -- a turn of eight rounds, where all sums are at hand
  pub both_eight : {v0 v1 v2 : Pair} (ws sums : List ℕ) (turn : ℕ) → 8 * turn + 8 ≤ rounds_count w
      → Sums sums ws (rounds_count w)
      → (Sums sums ws (8 * turn + 4) → Both v0 ws (8 * turn) → Both v1 ws (8 * turn + 4))
      → (Sums sums ws (8 * turn + 4 + 4) → Both v1 ws (8 * turn + 4) → Both v2 ws (8 * turn + 4 + 4))
      → Both v0 ws (8 * turn) → Both v2 ws (8 * (turn + 1))
  both_eight ws sums turn fits held first second before =
      in_eight (λ v n. Both v ws n) {Sums = λ n. Sums sums ws n} turn
      (λ n le t below. held t (omega (arith, fits, le, below))) _ _ _ first second before

  -- after the last turn, of the words of a block
  pub both_done : {v : Pair} (b sums : List ℕ) (turn : ℕ) → 8 * turn ≡ rounds_count w
      → ((ws : List ℕ) → Sums sums ws (rounds_count w) → Both v ws (8 * turn))
      → Sums sums (schedule_of w b) (rounds_count w) → Both v (schedule_of w b) (rounds_count w)
  both_done b sums turn done both held = rw (← done) (both (schedule_of w b) held)
