-- What a header states, by the octets at hand.
use Rattle.std.specs.Prelude.{ℕ, ◌+◌, ◌<◌, ◌≤◌, ◌^◌, List, length, Result, IfOk}
use Rattle.der_core.specs.declared.fault.Fault.{Fault}
use Rattle.der_core.specs.Reading.{Gives}
use Rattle.cms_stream_laws.specs.OpenReading.{heading}

-- the answer is the length that this reading gives, or its fault; and if it is a length, the header is complete in the
-- octets, and four further octets can state it
pub record StatesLength (reading : Result ℕ Fault) (octets : List ℕ) (result : Result ℕ Fault) : Type 0 where
  pub gives : Gives (λ l. l) result reading
  pub there : IfOk result (λ l. (heading l ≤ length octets) × (l < 2 ^ 32))

-- and the element ends within what is left of the body
pub record StatesWithin (reading : Result ℕ Fault) (left : ℕ) (octets : List ℕ) (result : Result ℕ Fault) : Type 0
  where
    pub gives : Gives (λ l. l) result reading
    pub there : IfOk result (λ l. (heading l ≤ length octets) × (heading l + l ≤ left) × (l < 2 ^ 32))
