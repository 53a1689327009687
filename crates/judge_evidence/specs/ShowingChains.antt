-- What the chains of a record show by themselves (RFC 4998, 5.3), without the octets that encode them.
use Rattle.std.specs.Prelude.{◌≡◌, ◌≢◌, ◌⊎◌, ℕ, List, [], ◌∷◌, ◌++◌}
use Rattle.evidence_types.specs.StampValue.{StampValue}
use Rattle.check_evidence.specs.Grounds.{Grounds}
use Rattle.check_evidence.specs.Places.{Place, IsIn}
use Rattle.check_evidence.specs.StampStates.{HasTime}
use Rattle.check_evidence.specs.Standing.{Stands}
use Rattle.check_evidence.specs.Showing.{IsFirst}

-- each time-stamp of the chains stands, and the first has this moment
pub record ShowsChains (g : Grounds) (chains : List (List StampValue)) (data_objects : List (List ℕ)) (m : ℕ)
    : Type 0 where
  pub stands : (p : Place) → IsIn chains p → Stands g data_objects p
  pub first : StampValue
  pub is_first : IsFirst chains first
  pub moment : HasTime first m

-- the second chains are the first, renewed by one time-stamp: it follows in the last chain, or is a chain by itself
-- (RFC 4998, 5.2)
pub record IsRenewal (chains : List (List StampValue)) (s : StampValue) (renewed : List (List StampValue))
    : Type 0 where
  pub front : List (List StampValue)
  pub last : List StampValue
  pub some : last ≢ []
  pub is : chains ≡ front ++ last ∷ []
  pub more : (renewed ≡ front ++ (last ++ s ∷ []) ∷ []) ⊎ (renewed ≡ chains ++ (s ∷ []) ∷ [])
