-- A BOOLEAN with a default: absent, the default spelled out, or the other value.
use Rattle.std.specs.Prelude.{ℕ, List, [], ◌∷◌, Option, Some, None, zero, suc, Result}
use Rattle.der_core.specs.declared.fault.Fault.{Fault}
use Rattle.der_core.specs.declared.flag.Flag.{Flag}
use Rattle.der_core.specs.declared.flag.Flag.TheVariants.{Absent, False, True}
use Rattle.der_core.specs.Reading.{Spot, maybe, named, boolean_in}

abbrev pub flag_of : Option (List ℕ) → Flag
flag_of None = Absent
flag_of (Some []) = True
flag_of (Some (zero ∷ xs)) = False
flag_of (Some (suc n ∷ xs)) = True

-- the contents that encode it
abbrev pub flag_contents : Flag → Option (List ℕ)
flag_contents Absent = None
flag_contents False = Some (0 ∷ [])
flag_contents True = Some (255 ∷ [])

unfoldable pub flag_at : Spot → Result (Flag × Spot) Fault
flag_at s = named flag_of (maybe 0x01 boolean_in) s
