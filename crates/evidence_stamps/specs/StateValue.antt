-- What is kept of a time-stamp that was read.
use Rattle.std.specs.Prelude.{◌≡◌, ℕ, List, Option, Some, None}
use Rattle.cms_types.specs.SignedDataValue.{SignedDataValue}
use Rattle.tsp_types.specs.TstValue.{TstValue}
use Rattle.check_evidence.specs.StampStates.{States}

-- the SignedData that a token is, and what it states
pub record StateValue : Type 0 where
  pub signed : SignedDataValue
  pub stated : TstValue

-- the octets are this token, which states this
pub record IsState (token : List ℕ) (s : StateValue) : Type 0 where
  pub states : States token s.stated
  pub signed : states.signed ≡ s.signed

-- this is what the octets state; or they state nothing
abbrev pub IsStateOf : (token : List ℕ) → Option StateValue → Type 0
IsStateOf token (Some s) = IsState token s
IsStateOf token None = (stated : TstValue) → States token stated → ⊥
