-- How one goes through the places of archive time-stamps in the order of the file (RFC 4998, 5.1).
use Rattle.std.specs.Prelude.{◌≡◌, ◌↔◌, ◌⊎◌, List, [], ◌∷◌, ◌++◌}
use Rattle.evidence_types.specs.StampValue.{StampValue}
use Rattle.check_evidence.specs.Places.{Place, IsIn, IsBefore, chain_of}

-- the chains in which it is a place
abbrev pub chains_of : Place → List (List StampValue)
chains_of p = p.earlier ++ chain_of p ∷ p.later

-- it is the first of all
pub record IsFirstPlace (p : Place) : Type 0 where
  pub no_chain : p.earlier ≡ []
  pub no_stamp : p.before ≡ []

-- it is the last of all
pub record IsLastPlace (p : Place) : Type 0 where
  pub no_stamp : p.after ≡ []
  pub no_chain : p.later ≡ []

-- the second follows the first in its chain
pub record IsNextInChain (p q : Place) : Type 0 where
  pub earlier : q.earlier ≡ p.earlier
  pub before : q.before ≡ p.before ++ p.stamp ∷ []
  pub after : p.after ≡ q.stamp ∷ q.after
  pub later : q.later ≡ p.later

-- the first is the last of its chain, and the second the first of the next
pub record BeginsNextChain (p q : Place) : Type 0 where
  pub earlier : q.earlier ≡ p.earlier ++ chain_of p ∷ []
  pub before : q.before ≡ []
  pub after : p.after ≡ []
  pub later : p.later ≡ chain_of q ∷ q.later

-- the second comes right after the first
abbrev pub IsNextPlace : (p q : Place) → Type 0
IsNextPlace p q = IsNextInChain p q ⊎ BeginsNextChain p q

-- a place is before another, or is the same
abbrev pub IsUpTo : (r p : Place) → Type 0
IsUpTo r p = IsBefore r p ⊎ (r ≡ p)

-- both are places in the same chains, and before the second are the first and those before that
pub record GoesOn (p q : Place) : Type 0 where
  pub same : chains_of q ≡ chains_of p
  pub order : (r : Place) → IsIn (chains_of p) r → IsBefore r q ↔ IsUpTo r p

-- each place in the chains is up to this one
abbrev pub EndsAt : Place → Type 0
EndsAt p = (r : Place) → IsIn (chains_of p) r → IsUpTo r p

-- no place is before this one
abbrev pub BeginsAt : Place → Type 0
BeginsAt p = (r : Place) → IsBefore r p → ⊥

-- ---- laws

-- of two places in the same chains one is before the other, or they are the same
abbrev pub PlacesAreOrdered : Type 0
PlacesAreOrdered = (chains : List (List StampValue)) (p q : Place) → IsIn chains p → IsIn chains q
    → IsBefore p q ⊎ ((p ≡ q) ⊎ IsBefore q p)

-- and only one of these holds
abbrev pub NeverBeforeItself : Type 0
NeverBeforeItself = (p : Place) → IsBefore p p → ⊥

abbrev pub NeverBothBefore : Type 0
NeverBothBefore = (p q : Place) → IsBefore p q → IsBefore q p → ⊥

-- what comes right after a place goes on from it, and the last ends
abbrev pub NextGoesOn : Type 0
NextGoesOn = (p q : Place) → IsNextPlace p q → GoesOn p q

abbrev pub LastEnds : Type 0
LastEnds = (p : Place) → IsLastPlace p → EndsAt p

abbrev pub FirstBegins : Type 0
FirstBegins = (p : Place) → IsFirstPlace p → BeginsAt p
