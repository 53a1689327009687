-- What a test of each place of a table shows.
use Rattle.std.proofs.Common.{◌≡◌, ℕ, zero, suc, ◌<◌, Bool, true, inl, inr, arith}
use Rattle.std.specs.Prelude.{◌&&◌}
use Rattle.std.proofs.lemmas.Bool.{and_parts, cases_lt}

-- each place below a bound passes
abbrev pub right_below : (ℕ → Bool) → ℕ → Bool
right_below right zero = true
right_below right (suc n) = right n && right_below right n

pub right_there : (right : ℕ → Bool) (n c : ℕ) → right_below right n ≡ true → c < n → right c ≡ true
right_there right zero c h lt = absurd (omega arith)
right_there right (suc n) c h lt =
    let parts = and_parts (right n) (right_below right n) h in
    elim (cases_lt c n) [
      | inl below ↦ right_there right n c parts.1 below
      | inr top ↦ let e : c ≡ n = omega arith in rw e parts.0
    ]
