-- Filters, one after the other, over the trusted entries.
use Rattle.std.specs.Prelude.{ℕ, ◌+◌, ◌<◌, ◌≤◌, List, All, Any}

-- after the first n filters some entry is left, and after the next one none is
pub record StopsAt {E : Type 0} (Left : ℕ → E → Type 0) (total : ℕ) (es : List E) (n : ℕ) : Type 0 where
  pub within : n < total
  pub left : 0 < n → Any (Left n) es
  pub none : All (λ e. Left (n + 1) e → ⊥) es

-- an entry passes this many filters, and no more
pub record Comes {E : Type 0} (Left : ℕ → E → Type 0) (total : ℕ) (e : E) (k : ℕ) : Type 0 where
  pub within : k ≤ total
  pub left : 0 < k → Left k e
  pub none : k < total → Left (k + 1) e → ⊥

-- the best of these entries passes this many
pub record Best {E : Type 0} (Left : ℕ → E → Type 0) (total : ℕ) (es : List E) (n : ℕ) : Type 0 where
  pub within : n ≤ total
  pub left : 0 < n → Any (Left n) es
  pub none : All (λ e. n < total → Left (n + 1) e → ⊥) es
