-- Rounds in a row, whatever they are of: one hash value or two, of words of either length.
use Rattle.std.proofs.Common.{◌≡◌, ℕ, ◌+◌, ◌*◌, ◌<◌, ◌≤◌, subst, arith}

module _ {V : Type 0} (At : V → ℕ → Type 0) where
  at_place : (v : V) (n k : ℕ) → n ≡ k → At v n → At v k
  at_place v n k e held = subst (At v) e held

  -- four rounds, each with its own sum
  pub in_four : {Sum : ℕ → ℕ → Type 0} {Is : V → V → ℕ → Type 0}
      → ((v next : V) (t sum : ℕ) → Sum t sum → At v t → Is v next sum → At next (t + 1)) → (sums : ℕ → ℕ) (t : ℕ)
      → ((i : ℕ) → i < t + 4 → Sum i (sums i)) → (v0 v1 v2 v3 v4 : V) → Is v0 v1 (sums t) → Is v1 v2 (sums (t + 1))
      → Is v2 v3 (sums (t + 2)) → Is v3 v4 (sums (t + 3)) → At v0 t → At v4 (t + 4)
  in_four next sums t held v0 v1 v2 v3 v4 is1 is2 is3 is4 before =
      let a1 = next v0 v1 t (sums t) (held t (omega arith)) before is1 in
      let a2 = next v1 v2 (t + 1) (sums (t + 1)) (held (t + 1) (omega arith)) a1 is2 in
      let a3 = next v2 v3 (t + 2) (sums (t + 2)) (held (t + 2) (omega arith))
      (at_place v2 (t + 1 + 1) (t + 2) (omega arith) a2) is3 in
      let a4 = next v3 v4 (t + 3) (sums (t + 3)) (held (t + 3) (omega arith))
      (at_place v3 (t + 2 + 1) (t + 3) (omega arith) a3) is4 in
      at_place v4 (t + 3 + 1) (t + 4) (omega arith) a4

  -- a turn of eight, of which these are the first sums
  pub in_eight : {Sums : ℕ → Type 0} (turn : ℕ) → ((n : ℕ) → n ≤ 8 * turn + 8 → Sums n) → (v0 v1 v2 : V)
      → (Sums (8 * turn + 4) → At v0 (8 * turn) → At v1 (8 * turn + 4))
      → (Sums (8 * turn + 4 + 4) → At v1 (8 * turn + 4) → At v2 (8 * turn + 4 + 4))
      → At v0 (8 * turn) → At v2 (8 * (turn + 1))
  in_eight turn sums v0 v1 v2 first second before =
      at_place v2 (8 * turn + 4 + 4) (8 * (turn + 1)) (omega arith)
      (second (sums (8 * turn + 4 + 4) (omega arith)) (first (sums (8 * turn + 4) (omega arith)) before))
