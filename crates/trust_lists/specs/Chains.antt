-- Chains of labels that may be the same. There are as many chains as labels, and the remainder of a label by how
-- many there are says in which chain its place is.
use Rattle.std.specs.Prelude.{◌≡◌, ℕ, ◌+◌, ◌%◌, ◌<◌, ◌≤◌, List, length, slice_index, Option, MatchOption}

-- this holds of none of the places from the first to the one before the last
abbrev pub NoneAt : (Is : ℕ → Type 0) → (first last : ℕ) → Type 0
NoneAt Is first last = (i : ℕ) → first ≤ i → i < last → Is i → ⊥

-- the first of the places from this one on of which it holds; if there is none, it holds of none below the end
abbrev pub IsNextAt : (Is : ℕ → Type 0) → (end first : ℕ) → (found : Option ℕ) → Type 0
IsNextAt Is end first found = MatchOption found (NoneAt Is first end)
    (λ i. (first ≤ i) × (i < end) × Is i × NoneAt Is first i)

-- the chain of a place
abbrev pub chain_at : (labels : List ℕ) → (place : ℕ) → ℕ
chain_at labels place = slice_index labels place % length labels

-- the first place of a chain from this place on; if there is none, how many labels there are
pub record IsLink (labels : List ℕ) (chain first next : ℕ) : Type 0 where
  pub from : first ≤ next
  pub within : next ≤ length labels
  pub there : next < length labels → chain_at labels next ≡ chain
  pub passed : NoneAt (λ i. chain_at labels i ≡ chain) first next

-- where each chain begins, of the places from this one on
pub record AreHeads (labels heads : List ℕ) (first : ℕ) : Type 0 where
  pub each : (chain : ℕ) → chain < length labels → IsLink labels chain first (slice_index heads chain)
  pub all : length heads ≡ length labels

-- where the chain of each place goes on, of the places from this one on
pub record AreLinks (labels links : List ℕ) (first : ℕ) : Type 0 where
  pub each : (i : ℕ) → first ≤ i → i < length labels
      → IsLink labels (chain_at labels i) (i + 1) (slice_index links i)
  pub all : length links ≡ length labels
