-- The places of archive time-stamps in a sequence of chains (RFC 4998, 5.1).
use Rattle.std.specs.Prelude.{◌≡◌, ℕ, ◌+◌, ◌<◌, ◌⊎◌, List, [], ◌∷◌, ◌++◌, length, Option, Some, None, flat_map}
use Rattle.evidence_types.specs.StampValue.{StampValue}

-- an archive time-stamp, the chains before its own, those before and after it in its chain, and the chains after that
pub record Place : Type 0 where
  pub earlier : List (List StampValue)
  pub before : List StampValue
  pub stamp : StampValue
  pub after : List StampValue
  pub later : List (List StampValue)

abbrev pub chain_of : Place → List StampValue
chain_of p = p.before ++ p.stamp ∷ p.after

-- it is a place in these chains
abbrev pub IsIn : List (List StampValue) → Place → Type 0
IsIn chains p = chains ≡ p.earlier ++ chain_of p ∷ p.later

-- its numbers, from 1
abbrev pub chain_number : Place → ℕ
chain_number p = length p.earlier + 1

abbrev pub stamp_number : Place → ℕ
stamp_number p = length p.before + 1

-- it is before another in the file
abbrev pub IsBefore : Place → Place → Type 0
IsBefore p q = (chain_number p < chain_number q)
    ⊎ ((chain_number p ≡ chain_number q) × (stamp_number p < stamp_number q))

abbrev pub first_of : List StampValue → Option StampValue
first_of [] = None
first_of (s ∷ stamps) = Some s

abbrev pub last_of : List StampValue → Option StampValue
last_of [] = None
last_of (s ∷ []) = Some s
last_of (s ∷ t ∷ stamps) = last_of (t ∷ stamps)

-- the stamps of chains, one after the other
abbrev pub stamps_of : List (List StampValue) → List StampValue
stamps_of chains = flat_map (λ c. c) chains

-- the first stamp of its chain, which may be itself
abbrev pub first_beside : Place → Option StampValue
first_beside p = first_of (chain_of p)

-- the stamp before it, in its chain or as the last of the chain before
abbrev pub preceding : Place → Option StampValue
preceding p = last_of (stamps_of p.earlier ++ p.before)

-- the stamp that follows it, in its chain or as the first of the next
abbrev pub following : Place → Option StampValue
following p = first_of (p.after ++ stamps_of p.later)
