-- Entering the first element of a list.
use Rattle.std.specs.Prelude.{◌≡◌, ◌==◌, ◌⊎◌, true, false, length, Option, Some, None, Ok, Err}
use Rattle.der_core.specs.declared.fault.Fault.{Fault}
use Rattle.der_core.specs.Reading.{Spot, enter_at}

-- the contents of the SEQUENCE at the front, and what follows it; or there is nothing, or no such element
abbrev pub EntersFront : Spot → Option (Spot × Spot) → Type 0
EntersFront s None = ((length s.rest == 0) ≡ true) ⊎ (((length s.rest == 0) ≡ false)
    × ((f : Fault) × (enter_at 0x30 s ≡ Err f)))
EntersFront s (Some x) = ((length s.rest == 0) ≡ false) × (enter_at 0x30 s ≡ Ok x)
