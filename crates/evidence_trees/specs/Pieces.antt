-- Octets that are values of one length, one after another.
use Rattle.std.specs.Prelude.{◌≡◌, ◌<◌, ◌*◌, ℕ, zero, suc, List, [], ◌∷◌, length, take, drop}

-- so many pieces of this length from the front of the octets on
abbrev pub pieces : (count length : ℕ) → List ℕ → List (List ℕ)
pieces zero length octets = []
pieces (suc count) length octets = take length octets ∷ pieces count length (drop length octets)

-- values that all have this many octets
pub record Sized : Type 0 where
  pub size : ℕ
  pub values : List (List ℕ)

-- the octets are so many values of this length
pub record AreSized (octets : List ℕ) (size count : ℕ) : Type 0 where
  pub some : 0 < size
  pub whole : length octets ≡ count * size
